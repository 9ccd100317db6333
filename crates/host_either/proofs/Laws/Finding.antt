-- Laws of `specs/Finding`: the ways out of the call.
use Prim.Native.Nat.{ℕ, ◌+◌}
use mathlib.Core.Bool.{Bool, true, false}
use mathlib.Core.List.{List}
use mathlib.Core.Path.{◌≡◌, refl, sym, ap, ◌∙◌}
use lib.Dec.{ltb}
use lib.ListN.{length}
use Rattle.mbus_either.specs.declared.Interface.{Interface}
use Rattle.std.specs.Prelude.{Result, Ok, Err}
use Rattle.base_rules.specs.Shown.{shown}
use Rattle.base_rules.specs.declared.refusals.Refusal.{Refusal}
use Rattle.base_rules.proofs.Laws.AnswerLaws.{shown_ok, shown_err}
use Rattle.mbus_either.specs.declared.LiveLine.{LiveLine}
use Rattle.mbus_either.specs.Interfaces.{find_either}
use Rattle.base_lent.specs.Copying.{copied}
use Rattle.base_lent.proofs.Laws.LentLaws.{leaves_all}
use Rattle.host_search.specs.Finding.{spot_bytes}
use Rattle.host_search.proofs.Laws.Finding.{spot_short, spot_kept}
use Rattle.host_either.specs.Finding.{interface_number, line_interface, line_bytes, FindsEither}

module _ (mbus optical out : List ℕ) {f : Result LiveLine Refusal} (e : f ≡ shown (find_either mbus optical)) where
  pub neither_found : {r : Refusal} → f ≡ Err r → FindsEither mbus optical out out (256 + r.0)
  neither_found {r} t = rw (shown_err (find_either mbus optical) r.0 (sym e ∙ t)) (leaves_all line_bytes out line_interface refl)

  module _ {line : LiveLine} (t : f ≡ Ok line) {short : Bool} {after : List ℕ} (s : short ≡ ltb (length out) 16)
      (l : after ≡ copied out 0 (spot_bytes line.spot)) where
    pub either_short : short ≡ true → FindsEither mbus optical out after (256 + 21)
    either_short h = rw (shown_ok (find_either mbus optical) line (sym e ∙ t)) (spot_short line_interface (λ x. x.spot) out line s l h)

    pub either_whole : short ≡ false → {i : Interface} → line.interface ≡ i → FindsEither mbus optical out after (interface_number i)
    either_whole h q =
        rw (shown_ok (find_either mbus optical) line (sym e ∙ t)) (spot_kept line_interface (λ x. x.spot) out line s l h (ap interface_number (sym q)))
