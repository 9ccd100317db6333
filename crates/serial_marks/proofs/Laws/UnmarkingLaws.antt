-- Laws of what is made of marked bytes: in pieces as at once; what is left; and every list of characters back.
use Prim.Native.Nat.{ℕ, zero, suc, ◌+◌, ◌≤◌, ◌<◌, zero-le}
use mathlib.Core.Bool.{false}
use mathlib.Core.List.{List, [], ◌∷◌, ◌++◌, append_assoc, append-nil}
use mathlib.Core.Logic.{◌⊎◌, inl, inr, ⊎_elim}
use mathlib.Core.Path.{◌≡◌, refl, sym, ap, ap₂, ◌∙◌}
use native.Mathlib.Nat.{zero-add, add_assoc}
use native.Mathlib.Omega.{arith}
use borrow.Author.Tests.{ltb-false}
use lib.ListN.{length, drop, length-append, length-drop, drop_of_length-le}
use lib.Seq.{drop-drop, drop-append-le, drop-append_seam}
use Rattle.base_rules.specs.Lists.{any}
use Rattle.base_characters.specs.Characters.{over}
use Rattle.base_rules.proofs.Laws.Tests.{neither}
use Rattle.base_lent.specs.Pieces.{pieces}
use Rattle.serial_marks.specs.Marks.{port_marked, Beginning}
use Rattle.serial_marks.specs.Unmarking.{whole, first, Unmarking, unmarked_in}
use Rattle.std.specs.Prelude.{Some, None}
use Rattle.serial_marks.proofs.Laws.FirstLaws.{by_first, first_on, first_left, first_marked}

abbrev pub nothing : Unmarking
nothing = record { used = 0; characters = [] }

-- so many bytes and these characters, and then what is made of the rest
abbrev pub after : ℕ → List ℕ → Unmarking → Unmarking
after n cs u = record { used = n + u.used; characters = cs ++ u.characters }

pub after_nothing : (n : ℕ) (cs : List ℕ) → after n cs nothing ≡ record { used = n; characters = cs }
after_nothing n cs = ap₂ (λ (m : ℕ) (l : List ℕ). record { used = m; characters = l }) (omega arith) (append-nil cs)

pub after_after : (m n : ℕ) (cs ds : List ℕ) (u : Unmarking) → after m cs (after n ds u) ≡ after (m + n) (cs ++ ds) u
after_after m n cs ds u =
    ap₂ (λ (k : ℕ) (l : List ℕ). record { used = k; characters = l }) (sym (add_assoc m n u.used)) (sym (append_assoc cs ds u.characters))

-- ---- both ways a step can go

pub stop : (room : ℕ) (s : List ℕ) → first s ≡ None → unmarked_in room s ≡ nothing
unfolding unmarked_in
stop zero s e = refl
stop (suc room) s e = rw e

pub step : (room : ℕ) (s : List ℕ) {n c : ℕ} → first s ≡ Some (whole n c) → unmarked_in (suc room) s ≡ after n (c ∷ []) (unmarked_in room (drop n s))
unfolding unmarked_in
step room s e = rw e

pub no_room : (s : List ℕ) → unmarked_in 0 s ≡ nothing
unfolding unmarked_in
no_room s = refl

-- ---- never more than there are bytes, nor than there is room for, and a byte at least for each

pub record Within (room : ℕ) (s : List ℕ) (u : Unmarking) : Type 0 where
  pub bytes : u.used ≤ length s
  pub places : length u.characters ≤ room
  pub each : length u.characters ≤ u.used

nothing_within : (room : ℕ) (s : List ℕ) → Within room s nothing
nothing_within room s = record { bytes = zero-le; places = zero-le; each = zero-le }

pub within_both : (room : ℕ) (s : List ℕ) → Within room s (unmarked_in room s)
within_both zero s = rw (no_room s) (nothing_within zero s)
within_both (suc room) s =
    by_first s (λ e. rw (stop (suc room) s e) (nothing_within (suc room) s))
    (λ n c e.
    let sized = (first_on s [] e).1 in
    let rest = within_both room (drop n s) in
    let bytes : (unmarked_in room (drop n s)).used ≤ length (drop n s) = rest.bytes in
    let places : length (unmarked_in room (drop n s)).characters ≤ room = rest.places in
    let each : length (unmarked_in room (drop n s)).characters ≤ (unmarked_in room (drop n s)).used = rest.each in
    let inside : n ≤ length s = sized.inside in
    let some : 0 < n = sized.some in
    rw (step room s e) (record { bytes = omega (arith, length-drop n s); places = omega arith; each = omega arith }))

-- ---- what was used is the same with more bytes behind, and the rest is made of what was left

pub in_two : (room k : ℕ) (s q : List ℕ)
    → unmarked_in (length (unmarked_in room s).characters + k) (s ++ q)
    ≡ after (unmarked_in room s).used (unmarked_in room s).characters (unmarked_in k (drop (unmarked_in room s).used s ++ q))
in_two zero k s q = rw (no_room s, zero-add k, zero-add (unmarked_in k (s ++ q)).used)
in_two (suc room) k s q =
    by_first s
    (λ e. rw (stop (suc room) s e, zero-add k, zero-add (unmarked_in k (s ++ q)).used))
    (λ n c e.
    let on = first_on s q e in
    let u : Unmarking = unmarked_in room (drop n s) in
    let inside : n ≤ length s = on.1.inside in
    let more : suc (length u.characters) + k ≡ suc (length u.characters + k) = omega arith in
    let behind : drop n (s ++ q) ≡ drop n s ++ q = drop-append-le n s q inside in
    let rest : drop u.used (drop n s) ≡ drop (n + u.used) s = drop-drop u.used n s in
    let all : unmarked_in (suc (length u.characters + k)) (s ++ q) ≡ after n (c ∷ []) (unmarked_in (length u.characters + k) (drop n s ++ q)) =
    step (length u.characters + k) (s ++ q) on.0 ∙ ap (λ (l : List ℕ). after n (c ∷ []) (unmarked_in (length u.characters + k) l)) behind in
    rw (step room s e, more)
    (all
    ∙ ap (after n (c ∷ [])) (in_two room k (drop n s) q)
    ∙ after_after n u.used (c ∷ []) u.characters (unmarked_in k (drop u.used (drop n s) ++ q))
    ∙ ap (λ (l : List ℕ). after (n + u.used) (c ∷ u.characters) (unmarked_in k (l ++ q))) rest))

-- ---- what is left is an unfinished mark, or what there was no room for

pub what_is_left : (room : ℕ) (s : List ℕ) → (length (unmarked_in room s).characters ≡ room) ⊎ Beginning (drop (unmarked_in room s).used s)
what_is_left zero s = inl (rw (no_room s))
what_is_left (suc room) s =
    by_first s (λ e. inr (rw (stop (suc room) s e) (first_left s e)))
    (λ n c e.
    let u : Unmarking = unmarked_in room (drop n s) in
    rw (step room s e)
    (⊎_elim (λ full. inl (ap suc full)) (λ begun. inr (rw (drop-drop u.used n s) at begun)) (what_is_left room (drop n s))))

-- so where there is room for as many characters as bytes it is an unfinished mark
pub full_room : (room : ℕ) (s : List ℕ) → length s ≤ room → Beginning (drop (unmarked_in room s).used s)
full_room room s h =
    let w = within_both room s in
    let bytes : (unmarked_in room s).used ≤ length s = w.bytes in
    let each : length (unmarked_in room s).characters ≤ (unmarked_in room s).used = w.each in
    ⊎_elim (λ full. inl (drop_of_length-le s {i = (unmarked_in room s).used} (omega arith))) (λ begun. begun) (what_is_left room s)

-- and of an unfinished mark nothing is made
unfinished : (s : List ℕ) → Beginning s → first s ≡ None
unfinished s b = ⊎_elim (λ e. rw e) (λ r. ⊎_elim (λ e. rw e) (λ e. rw e) r) b

pub none_of_beginning : (k : ℕ) (s : List ℕ) → Beginning s → unmarked_in k s ≡ nothing
none_of_beginning k s b = stop k s (unfinished s b)

-- ---- every list of characters that was marked is given back, whatever comes behind it

pub marked_on : (cs : List ℕ) → any over cs ≡ false → (k : ℕ) (q : List ℕ)
    → unmarked_in (length cs + k) (pieces port_marked cs ++ q) ≡ after (length (pieces port_marked cs)) cs (unmarked_in k q)
unfolding any
marked_on [] h k q = rw (zero-add k, zero-add (unmarked_in k q).used)
marked_on (c ∷ cs) h k q =
    let both = neither (over c) (any over cs) h in
    let small : c ≤ 511 = ltb-false 511 c both.0 in
    let rest : List ℕ = pieces port_marked cs in
    let more : suc (length cs) + k ≡ suc (length cs + k) = omega arith in
    let all : unmarked_in (suc (length cs + k)) (port_marked c ++ (rest ++ q))
    ≡ after (length (port_marked c)) (c ∷ []) (unmarked_in (length cs + k) (rest ++ q)) =
    step (length cs + k) (port_marked c ++ (rest ++ q)) (first_marked c small (rest ++ q))
    ∙ ap (λ (l : List ℕ). after (length (port_marked c)) (c ∷ []) (unmarked_in (length cs + k) l)) (drop-append_seam (port_marked c) (rest ++ q)) in
    ap₂ unmarked_in more (append_assoc (port_marked c) rest q)
    ∙ all
    ∙ ap (after (length (port_marked c)) (c ∷ [])) (marked_on cs both.1 k q)
    ∙ after_after (length (port_marked c)) (length rest) (c ∷ []) cs (unmarked_in k q)
    ∙ ap (λ (n : ℕ). after n (c ∷ cs) (unmarked_in k q)) (sym (length-append (port_marked c) rest))

pub none_of_none : (k : ℕ) → unmarked_in k [] ≡ nothing
none_of_none k = stop k [] refl

pub marked_back : (cs : List ℕ) → any over cs ≡ false → (k : ℕ)
    → unmarked_in (length cs + k) (pieces port_marked cs) ≡ record { used = length (pieces port_marked cs); characters = cs }
marked_back cs h k =
    ap (unmarked_in (length cs + k)) (sym (append-nil (pieces port_marked cs)))
    ∙ marked_on cs h k []
    ∙ ap (after (length (pieces port_marked cs)) cs) (none_of_none k)
    ∙ after_nothing (length (pieces port_marked cs)) cs
