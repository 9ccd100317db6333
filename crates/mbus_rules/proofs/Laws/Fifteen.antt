-- The chain with 15 and the chain without it answer alike on every list, since an eighth entry always repeats a quantity.
use Prim.Native.Nat.{ℕ, zero, suc, ◌+◌}
use mathlib.Core.Bool.{Bool, true, false, cond, not}
use mathlib.Core.List.{List, [], ◌∷◌, ◌++◌, map}
use mathlib.Core.Path.{◌≡◌, refl, sym, ap, ◌∙◌}
use native.Mathlib.Omega.{arith}
use borrow.Author.Tests.{eqb-true}
use lib.Dec.{eqb}
use lib.ListN.{length, length-append, drop}
use Rattle.mbus_rules.specs.declared.Entry.{Entry}
use Rattle.base_rules.specs.Lists.{at}
use Rattle.base_characters.specs.Characters.{byte_of}
use Rattle.base_rules.specs.Answers.{Answer, reads, refuse, within}
use Rattle.mbus_rules.specs.Headers.{header_of, wrong_header}
use Rattle.mbus_rules.specs.Quantities.{quantity_of}
use Rattle.mbus_rules.specs.Entries.{entry_of, entry_width, unfit, wrong_digit, wrong_time, seen, missing, read_entries}
use Rattle.mbus_rules.specs.Telegrams.{ack, data_of}
use Rattle.mbus_rules.specs.Lines.{is_ack, is_short, field, is_command, is_data, command_of, read_short, read_body, read_line}
use Rattle.mbus_rules.specs.Fifteen.{entries_with15, body_with15, line_with15}
use Rattle.base_rules.proofs.Laws.Tests.{by_test}
use Rattle.mbus_rules.proofs.Laws.Seven.{Different, different_last, different_few, different_room, fit_known, none_yet}
use Rattle.mbus_rules.proofs.Laws.EntryLaws.{entries_next}

-- the chain of one entry, by its tests: where 11 and 14 let it pass 15 does not hold, and what follows is alike
entry_alike : {A : Type 0} (a b c d f : Bool) (x y : Answer A) → (a ≡ false → d ≡ false → f ≡ false) → (a ≡ false → d ≡ false → x ≡ y)
    → refuse 11 a (refuse 12 b (refuse 13 c (refuse 14 d (refuse 15 f x)))) ≡ refuse 11 a (refuse 12 b (refuse 13 c (refuse 14 d y)))
entry_alike true b c d f x y h k = refl
entry_alike false true c d f x y h k = refl
entry_alike false false true d f x y h k = refl
entry_alike false false false true f x y h k = refl
entry_alike false false false false f x y h k = rw (h refl refl) (k refl refl)

none_left : (done : List Entry) → refuse 16 (missing done) (reads done) ≡ read_entries 0 [] done
unfolding read_entries
none_left done = refl

pub entries_alike : (left : ℕ) (s : List ℕ) (done : List Entry) → left + length done ≡ 8 → Different done → entries_with15 left s done ≡ read_entries 0 s done
unfolding entries_with15
entries_alike zero s done e d = absurd (omega (arith, different_few done d))
entries_alike (suc left) [] done e d = none_left done
entries_alike (suc left) (b ∷ t) done e d =
    let s : List ℕ = b ∷ t in
    let q : ℕ = quantity_of (at s 1) in
    entry_alike (unfit s) (wrong_digit s) (wrong_time s) (seen q done) (eqb (length done) 7) _ _
    (λ fit new. by_test (eqb (length done) 7)
    (λ y. absurd (omega (arith, eqb-true (length done) 7 y, different_room q done d (fit_known s fit) new)))
    (λ n. n))
    (λ fit new. entries_alike left (drop (entry_width s) s) (done ++ (entry_of s ∷ [])) (omega (arith, length-append done (entry_of s ∷ [])))
    (different_last done (entry_of s) d (fit_known s fit) new))
    ∙ sym (entries_next b t done)

body_alike : (b : List ℕ) → body_with15 b ≡ read_body b
unfolding read_body
body_alike b =
    let f = field b in
    let d = drop 3 f in
    ap (λ (r : Answer (List Entry)). cond (is_ack b) (reads ack) (cond (is_short b) (read_short f) (cond (is_command f) (reads (command_of f))
    (refuse 9 (not (is_data f)) (refuse 10 (wrong_header d) (within (data_of (at f 1) (header_of d)) r))))))
    (entries_alike 8 (drop 12 d) [] refl none_yet)

pub lines_alike : (s : List ℕ) → line_with15 s ≡ read_line s
unfolding read_line
lines_alike s = rw (body_alike (map byte_of s))
