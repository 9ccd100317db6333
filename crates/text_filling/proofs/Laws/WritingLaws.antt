-- Laws of `specs/Putting`: texts put one behind the other.
use Prim.Native.Nat.{ℕ, suc, ◌+◌, ◌-◌, ◌≤◌, ◌<◌, min}
use mathlib.Core.Bool.{true, false}
use mathlib.Core.List.{List, [], ◌∷◌, ◌++◌, append_assoc}
use mathlib.Core.Path.{◌≡◌, refl, sym, ap, ◌∙◌}
use native.Mathlib.Nat.{add-zero}
use native.Mathlib.Numerals.{add-one}
use native.Mathlib.Omega.{arith}
use lib.Dec.{leb, eqb}
use lib.ListN.{length, get_or, take, drop, set, length-append, drop_of_length-le, take-append-drop}
use lib.Seq.{sets, sets-eq, length-sets, length-take-le, take_at, take_all, set_out, drop-cons, get_or-drop, drop-drop}
use borrow.Author.Tests.{leb-true, leb-false}
use Rattle.text_filling.specs.Decimals.{decimal}
use Rattle.text_filling.specs.Holes.{filled_with}
use Rattle.text_filling.specs.Putting.{tallied, PutAt}

-- what is past the end is stored nowhere
pub sets_past : (t l : List ℕ) (at : ℕ) → length l ≤ at → sets l at t ≡ l
sets_past [] l at h = refl
sets_past (a ∷ t) l at h = rw (set_out l at a h) (sets_past t l (suc at) (omega arith))

-- one text behind the other
sets_join : (s t l : List ℕ) (at : ℕ) → sets (sets l at s) (at + length s) t ≡ sets l at (s ++ t)
sets_join [] t l at = rw add-zero
sets_join (a ∷ s) t l at =
    let e : at + suc (length s) ≡ suc at + length s = omega arith in
    rw e (sets_join s t (set l at a) (suc at))

-- a count that stays at the largest number names no place either
sets_tallied : (t l : List ℕ) (at : ℕ) → length l ≤ 18446744073709551615 → sets l (tallied at) t ≡ sets l at t
sets_tallied t l at h = go (leb at 18446744073709551615) refl
  where
    go : (b : _) → leb at 18446744073709551615 ≡ b → sets l (tallied at) t ≡ sets l at t
    go true e = let k : tallied at ≡ at = omega (arith, leb-true at 18446744073709551615 e) in rw k
    go false e =
        let g : 18446744073709551615 < at = leb-false at 18446744073709551615 e in
        let k : tallied at ≡ 18446744073709551615 = omega arith in
        rw k (sets_past t l 18446744073709551615 h ∙ sym (sets_past t l at (omega arith)))

-- a text, and behind it another
pub two : {s t b c d : List ℕ} {at m r : ℕ} → length b ≤ 18446744073709551615 → PutAt s b at m c → PutAt t c m r d → PutAt (s ++ t) b at r d
two {s} {t} {b} {c} {d} {at} {m} {r} room v w = record {
  holds =
      w.holds ∙ rw (v.holds, v.count)
      (sets_tallied t (sets b at s) (at + length s) (rw length-sets room) ∙ sets_join s t b at);
  count =
      let e : m ≡ tallied (at + length s) = v.count in
      let f : r ≡ tallied (m + length t) = w.count in
      omega (arith, length-append s t);
}

-- and more of them
pub writes_length : {t b c : List ℕ} {at r : ℕ} → PutAt t b at r c → length c ≡ length b
writes_length {t} {b} {c} {at} w = ap length w.holds ∙ length-sets b at t

pub three : {s t u b c d e : List ℕ} {at m n r : ℕ} → length b ≤ 18446744073709551615
    → PutAt s b at m c → PutAt t c m n d → PutAt u d n r e → PutAt (s ++ (t ++ u)) b at r e
three room v w x = two room v (two (rw (writes_length v) room) w x)

pub four : {s t u v b c d e f : List ℕ} {at m n o r : ℕ} → length b ≤ 18446744073709551615
    → PutAt s b at m c → PutAt t c m n d → PutAt u d n o e → PutAt v e o r f → PutAt (s ++ (t ++ (u ++ v))) b at r f
four room v w x y = two room v (three (rw (writes_length v) room) w x y)

-- nothing written
pub nothing : {b : List ℕ} {at : ℕ} → at ≤ 18446744073709551615 → PutAt [] b at at b
nothing {b} {at} h = record { holds = refl; count = omega (arith, add-zero at) }

-- nothing where there is no room
pub put_past : {b t : List ℕ} {at r : ℕ} → length b ≤ at → r ≡ tallied (at + length t) → PutAt t b at r b
put_past {b} {t} {at} h e = record { holds = sym (sets_past t b at h); count = e }

-- and else what has room, copied at once
pub put_cut : {b t c s : List ℕ} {at k n r : ℕ} → at < length b → k ≡ min (length t) (length b - at) → n ≡ k → s ≡ take k t
    → c ≡ take at b ++ (s ++ drop n (drop at b)) → r ≡ tallied (at + length t) → PutAt t b at r c
put_cut {b} {t} {c} {s} {at} {k} {n} {r} h ek en es ec er = record { holds = ec ∙ sym (first ∙ there); count = er }
  where
    few : length (take k t) ≡ k
    few = length-take-le k t (omega arith)

    there : sets b at (take k t) ≡ take at b ++ (s ++ drop n (drop at b))
    there =
        sets-eq (take k t) b at (omega (arith, few))
        ∙ rw (few, es, en, drop-drop k at b) (append_assoc (take at b) (take k t) (drop (at + k) b))

    first : sets b at t ≡ sets b at (take k t)
    first = go (leb (length t) k) refl
      where
        go : (all : _) → leb (length t) k ≡ all → sets b at t ≡ sets b at (take k t)
        go true e = rw (take_all k t (leb-true (length t) k e)) refl
        go false e =
            let g : k < length t = leb-false (length t) k e in
            let past : length (sets b at (take k t)) ≤ at + k = rw length-sets (omega arith) in
            ap (sets b at) (sym (take-append-drop k t)) ∙ sym (sets_join (take k t) (drop k t) b at)
            ∙ rw few (sets_past (drop k t) (sets b at (take k t)) (at + k) past)

-- A loop, or a run of calls, that puts a text: what is left of it gives the whole.
pub record Left (text before : List ℕ) (at : ℕ) (rest : List ℕ) (next : ℕ) (out : List ℕ) : Type 0 where
  pub room : length before ≤ 18446744073709551615
  pub near : next ≤ 18446744073709551615
  pub same : length out ≡ length before
  pub so : sets out next rest ≡ sets before at text
  pub count : tallied (next + length rest) ≡ tallied (at + length text)

pub left_all : {text before : List ℕ} {at : ℕ} → length before ≤ 18446744073709551615 → at ≤ 18446744073709551615 → Left text before at text at before
left_all h k = record { room = h; near = k; same = refl; so = refl; count = refl }

pub left_next : {text before whole s rest out after : List ℕ} {at next r : ℕ}
    → Left text before at whole next out → whole ≡ s ++ rest → PutAt s out next r after → Left text before at rest r after
left_next {text} {before} {whole} {s} {rest} {out} {after} {at} {next} {r} g e w = record {
  room = g.room;
  near = omega (arith, w.count);
  same = writes_length w ∙ g.same;
  so =
      let both : PutAt (s ++ rest) out next (tallied (r + length rest)) (sets after r rest) =
      two (rw g.same g.room) w (record { holds = refl; count = refl }) in
      both.holds ∙ ap (sets out next) (sym e) ∙ g.so;
  count =
      let a : r ≡ tallied (next + length s) = w.count in
      let b : length whole ≡ length s + length rest = ap length e ∙ length-append s rest in
      let c : tallied (next + length whole) ≡ tallied (at + length text) = g.count in
      let d : tallied (r + length rest) ≡ tallied (next + length whole) = omega arith in
      d ∙ c;
}

pub left_none : {text before out : List ℕ} {at next : ℕ} → Left text before at [] next out → PutAt text before at next out
left_none {text} {before} {out} {at} {next} g = record {
  holds = g.so;
  count = let c : tallied (next + 0) ≡ tallied (at + length text) = g.count in omega (arith, c, g.near, add-zero next);
}

-- ---- a text with holes

-- a hole, and a byte that is none
pub filled_with_hole : (t ns : List ℕ) (i k : ℕ) {n : ℕ} → i < length t → eqb (get_or t i 0) 37 ≡ true → n ≡ get_or ns k 0
    → filled_with (drop i t) (drop k ns) ≡ decimal n ++ filled_with (drop (i + 1) t) (drop (k + 1) ns)
unfolding filled_with
filled_with_hole t ns i k {n} h e f =
    rw (drop-cons t i 0 h, e, get_or-drop k ns 0 0, add-zero k, ← f, drop-drop 1 k ns, add-one i)

pub filled_with_byte : (t ns : List ℕ) (i k : ℕ) → i < length t → eqb (get_or t i 0) 37 ≡ false
    → filled_with (drop i t) (drop k ns) ≡ (get_or t i 0 ∷ []) ++ filled_with (drop (i + 1) t) (drop k ns)
unfolding filled_with
filled_with_byte t ns i k h e = rw (drop-cons t i 0 h, e, add-one i)

pub filled_with_end : (t ns : List ℕ) (i : ℕ) → length t ≤ i → filled_with (drop i t) ns ≡ []
unfolding filled_with
filled_with_end t ns i h = rw (drop_of_length-le t h)

-- a text that fits: what stood in front, and the text behind it
pub put_front : {t b c : List ℕ} {at r : ℕ} → PutAt t b at r c → at + length t ≤ length b → length b ≤ 18446744073709551615
    → (r ≡ at + length t) × (take r c ≡ take at b ++ t)
put_front {t} {b} {c} {at} {r} w h room =
    let e : r ≡ at + length t = omega (arith, w.count) in
    let front : length (take at b ++ t) ≡ r = omega (arith, length-append (take at b) t, length-take-le at b (omega arith)) in
    (e, rw (w.holds, sets-eq t b at h) (take_at (take at b ++ t) (drop (at + length t) b) r front))
