-- Laws of `specs/Calls`: the ways out of the calls.
use Prim.Native.Nat.{ℕ, ◌+◌}
use mathlib.Core.Bool.{Bool, true, false}
use mathlib.Core.List.{List, [], ◌∷◌, append-nil}
use mathlib.Core.Path.{◌≡◌, refl, sym, ap, ◌∙◌}
use lib.Dec.{ltb}
use lib.ListN.{length}
use Rattle.mbus_length.specs.declared.HowLong.{HowLong}
use Rattle.std.specs.Prelude.{Result, Ok, Err}
use Rattle.base_rules.specs.Shown.{shown}
use Rattle.base_rules.specs.declared.refusals.Refusal.{Refusal}
use Rattle.base_rules.proofs.Laws.AnswerLaws.{shown_ok, shown_err}
use Rattle.mbus_after.specs.declared.TimedSpot.{TimedSpot}
use Rattle.mbus_after.specs.After.{timed_at, find_after}
use Rattle.base_numbers.specs.Records.{words_of, record_of}
use Rattle.base_numbers.proofs.Laws.RecordLaws.{record_length}
use Rattle.base_lent.specs.Copying.{copied}
use Rattle.base_lent.specs.Lent.{done}
use Rattle.base_lent.proofs.Laws.LentLaws.{leaves_all}
use Rattle.host_search.proofs.Laws.Finding.{record_short, record_kept}
use Rattle.host_incoming.specs.Calls.{length_number, length_left, TellsLength, timed_bytes, FindsAfter}

-- ---- the length

pub tells : {w v x : HowLong} (before : ℕ) → v ≡ w → v ≡ x → TellsLength w before (length_left x before) (length_number x)
tells before e t = rw (← e, t) (record { answer = refl; left = refl })

-- ---- the line after a time

-- the record of a place with its time has 24 bytes
timed_record : (p n t : ℕ) → record_of [] (p ∷ n ∷ t ∷ []) [] ≡ timed_bytes (timed_at p n t)
timed_record p n t = append-nil (words_of (p ∷ n ∷ t ∷ []))

pub timed_copied : (out : List ℕ) (p n t : ℕ) {after : List ℕ} → after ≡ copied out 0 (record_of [] (p ∷ n ∷ t ∷ []) [])
    → after ≡ copied out 0 (timed_bytes (timed_at p n t))
timed_copied out p n t l = l ∙ ap (copied out 0) (timed_record p n t)

timed_length : (p : TimedSpot) → length (timed_bytes p) ≡ 24
timed_length p =
    ap length (sym (timed_record p.spot.place p.spot.length p.time))
    ∙ record_length [] (p.spot.place ∷ p.spot.length ∷ p.time ∷ []) []

module _ (t : ℕ) (capture times out : List ℕ) {f : Result TimedSpot Refusal} (e : f ≡ shown (find_after t capture times)) where
  pub none_after : {r : Refusal} → f ≡ Err r → FindsAfter t capture times out out (256 + r.0)
  none_after {r} q = rw (shown_err (find_after t capture times) r.0 (sym e ∙ q)) (leaves_all timed_bytes out done refl)

  module _ {p : TimedSpot} (q : f ≡ Ok p) {short : Bool} {after : List ℕ} (s : short ≡ ltb (length out) 24)
      (l : after ≡ copied out 0 (timed_bytes p)) where
    pub after_short : short ≡ true → FindsAfter t capture times out after (256 + 21)
    after_short h = rw (shown_ok (find_after t capture times) p (sym e ∙ q)) (record_short done timed_bytes 24 out p (timed_length p) s l h)

    pub after_whole : short ≡ false → FindsAfter t capture times out after 0
    after_whole h = rw (shown_ok (find_after t capture times) p (sym e ∙ q)) (record_kept done timed_bytes 24 out p (timed_length p) s l h refl)
