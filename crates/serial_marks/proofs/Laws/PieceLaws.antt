-- Laws of a host that reads piece by piece: nothing is lost and nothing is made twice, whatever the pieces and the rooms.
use Prim.Native.Nat.{ℕ, ◌+◌, ◌≤◌, zero-le}
use mathlib.Core.Bool.{false}
use mathlib.Core.List.{List, [], ◌∷◌, ◌++◌, append_assoc, append-nil}
use mathlib.Core.Logic.{inl}
use mathlib.Core.Path.{◌≡◌, refl, sym, ap, ap₂, ◌∙◌}
use native.Mathlib.Nat.{zero-add, add_assoc, add_comm}
use native.Mathlib.Omega.{arith}
use borrow.Author.Tests.{ltb-false}
use lib.Dec.{ltb}
use lib.ListN.{length, drop, length-append, length-drop}
use lib.Seq.{drop-drop, drop-append-le, drop-length}
use Rattle.base_rules.specs.Lists.{any}
use Rattle.base_characters.specs.Characters.{over}
use Rattle.base_rules.proofs.Laws.Tests.{neither}
use Rattle.base_lent.specs.Pieces.{pieces}
use Rattle.serial_marks.specs.Marks.{port_marked, Beginning}
use Rattle.serial_marks.specs.Unmarking.{Unmarking, unmarked_in}
use Rattle.serial_marks.specs.Pieces.{Piece, Hearing, received, by_pieces}
use Rattle.serial_marks.proofs.Laws.UnmarkingLaws.{nothing, after, after_nothing, after_after, within_both}
use Rattle.serial_marks.proofs.Laws.UnmarkingLaws.{in_two, full_room, none_of_beginning, marked_back}

-- So many bytes were used for the characters that were heard, and what is made of all bytes is these and what is made of the rest.
pub record Cut (all : List ℕ) (h : Hearing) : Type 0 where
  pub n : ℕ
  pub inside : n ≤ length all
  pub rest : h.left ≡ drop n all
  pub so : (k : ℕ) → unmarked_in (length h.characters + k) all ≡ after n h.characters (unmarked_in k h.left)

pub cut_by_pieces : (left : List ℕ) (ps : List Piece) → Cut (left ++ received ps) (by_pieces left ps)
unfolding by_pieces
cut_by_pieces left [] =
    rw (append-nil left) (record { n = 0; inside = zero-le; rest = refl; so = λ k. rw (zero-add k, zero-add (unmarked_in k left).used) })
cut_by_pieces left (p ∷ ps) =
    let s : List ℕ = left ++ p.bytes in
    let q : List ℕ = received ps in
    let u : Unmarking = unmarked_in p.room s in
    let kept : List ℕ = drop u.used s in
    let h : Hearing = by_pieces kept ps in
    let c = cut_by_pieces kept ps in
    let bytes : u.used ≤ length s = (within_both p.room s).bytes in
    let m : ℕ = c.n in
    let within : m ≤ length (kept ++ q) = c.inside in
    let behind : kept ++ q ≡ drop u.used (s ++ q) = sym (drop-append-le u.used s q bytes) in
    rw (← append_assoc left p.bytes q)
    (record {
      n = u.used + m;
      inside = omega (arith, length-append kept q, length-drop u.used s, length-append s q);
      rest = c.rest ∙ ap (drop m) behind ∙ drop-drop m u.used (s ++ q);
      so = λ k.
          ap (λ (i : ℕ). unmarked_in i (s ++ q))
          (ap (λ (i : ℕ). i + k) (length-append u.characters h.characters) ∙ add_assoc (length u.characters) (length h.characters) k)
          ∙ in_two p.room (length h.characters + k) s q
          ∙ ap (after u.used u.characters) (c.so k)
          ∙ after_after u.used m u.characters h.characters (unmarked_in k h.left);
    })

-- ---- characters that were marked

module _ (cs : List ℕ) (sound : any over cs ≡ false) (ps : List Piece) (e : received ps ≡ pieces port_marked cs) where
  whole : Cut (pieces port_marked cs) (by_pieces [] ps)
  whole = rw e at (cut_by_pieces [] ps)

  all_made : after whole.n (by_pieces [] ps).characters (unmarked_in (length cs) (by_pieces [] ps).left)
      ≡ record { used = length (pieces port_marked cs); characters = cs }
  all_made =
      sym (whole.so (length cs))
      ∙ ap (λ (i : ℕ). unmarked_in i (pieces port_marked cs)) (add_comm (length (by_pieces [] ps).characters) (length cs))
      ∙ marked_back cs sound (length (by_pieces [] ps).characters)

  -- whatever the rooms: what was heard, and what is still made of what is left, is the list
  pub nothing_lost : (by_pieces [] ps).characters ++ (unmarked_in (length cs) (by_pieces [] ps).left).characters ≡ cs
  nothing_lost = ap (λ (u : Unmarking). u.characters) all_made

-- with room enough an unfinished mark is all that is left
begun : (left : List ℕ) (ps : List Piece) (n : ℕ) → Beginning left → length (left ++ received ps) ≤ n → any (λ (p : Piece). ltb p.room n) ps ≡ false
    → Beginning (by_pieces left ps).left
unfolding by_pieces any
begun left [] n b fits rooms = b
begun left (p ∷ ps) n b fits rooms =
    let s : List ℕ = left ++ p.bytes in
    let both = neither (ltb p.room n) (any (λ (p : Piece). ltb p.room n) ps) rooms in
    let room : n ≤ p.room = ltb-false p.room n both.0 in
    let sizes : length left + (length p.bytes + length (received ps)) ≤ n =
    omega (arith, length-append left (p.bytes ++ received ps), length-append p.bytes (received ps)) in
    let kept : List ℕ = drop (unmarked_in p.room s).used s in
    begun kept ps n (full_room p.room s (omega (arith, length-append left p.bytes)))
    (omega (arith, length-append kept (received ps), length-drop (unmarked_in p.room s).used s, length-append left p.bytes)) both.1

module _ (cs : List ℕ) (sound : any over cs ≡ false) (ps : List Piece) (e : received ps ≡ pieces port_marked cs)
    (rooms : any (λ (p : Piece). ltb p.room (length (pieces port_marked cs))) ps ≡ false) where
  pub all_heard : by_pieces [] ps ≡ record { characters = cs; left = [] }
  all_heard =
      let h : Hearing = by_pieces [] ps in
      let last : Beginning h.left = begun [] ps (length (pieces port_marked cs)) (inl refl) (omega (arith, ap length e)) rooms in
      let made : after (whole cs sound ps e).n h.characters nothing ≡ record { used = length (pieces port_marked cs); characters = cs } =
      ap (after (whole cs sound ps e).n h.characters) (sym (none_of_beginning (length cs) h.left last)) ∙ all_made cs sound ps e in
      let both : ◌≡◌ {A = Unmarking} (record { used = (whole cs sound ps e).n; characters = h.characters })
      (record { used = length (pieces port_marked cs); characters = cs }) =
      sym (after_nothing (whole cs sound ps e).n h.characters) ∙ made in
      let gone : h.left ≡ [] =
      (whole cs sound ps e).rest ∙ ap (λ (u : Unmarking). drop u.used (pieces port_marked cs)) both ∙ drop-length (pieces port_marked cs) in
      ap₂ (λ (c l : List ℕ). record { characters = c; left = l }) (ap (λ (u : Unmarking). u.characters) both) gone
