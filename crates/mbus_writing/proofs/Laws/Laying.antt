-- Laws of `specs/Laying`.
use Prim.Native.Nat.{ℕ, zero, suc, ◌+◌, ◌*◌, ◌-◌, ◌/◌, ◌%◌, ◌^◌, ◌≤◌, ◌<◌, zero-le}
use mathlib.Core.Bool.{true, false, cond, not, ◌&&◌, false≢true}
use mathlib.Core.List.{List, [], ◌∷◌, ◌++◌, append_assoc, append-nil}
use mathlib.Core.Path.{◌≡◌, refl, sym, ap, ap₂, subst, ◌∙◌}
use native.Mathlib.Nat.{not-suc-le-zero, pow-succ', pow-le-pow_right}
use native.Mathlib.Numerals.{add-one}
use native.Mathlib.Omega.{arith}
use borrow.Author.Tests.{ltb-true, leb-true, le-leb, not-false}
use lib.Dec.{ltb, leb}
use lib.IntN.{ℤ, pos, negsuc, nat_abs}
use lib.ListN.{length, get_or, take, drop, set, length-append, length-set, take-append-drop}
use lib.Seq.{take-add, take-suc, take-take, get_or-take, take_at, drop_at, take-append_seam, length-take-le}
use Rattle.base_lent.specs.Copying.{laid, copied}
use Rattle.base_lent.proofs.Laws.Copying.{laid_none, laid_front, laid_on, laid_length}
use Rattle.base_lent.proofs.Laws.Copying.{copied_fits}
use Rattle.mbus_rules.specs.declared.Value.{Value}
use Rattle.mbus_rules.specs.declared.Value.TheVariants.{Number, Time, Binary}
use Rattle.mbus_rules.specs.declared.Kind.{Kind}
use Rattle.mbus_rules.specs.declared.Kind.TheVariants.{Data}
use Rattle.mbus_rules.specs.declared.Entry.{Entry}
use Rattle.mbus_rules.specs.declared.Telegram.{Telegram}
use Rattle.base_rules.specs.Lists.{at, total}
use Rattle.base_rules.proofs.Laws.Tests.{none_at}
use Rattle.base_digits.specs.Digits.{packed}
use Rattle.mbus_rules.specs.Entries.{may_fall}
use Rattle.mbus_rules.specs.Signs.{marked, signed_bytes, fits_signed}
use Rattle.base_numbers.specs.TwosComplement.{below_zero, binary_bytes, fits_binary}
use Rattle.mbus_rules.proofs.Laws.SignLaws.{marked_cons}
use Rattle.base_digits.proofs.Laws.DigitLaws.{length_packed}
use Rattle.base_numbers.specs.Numbers.{bytes_of}
use Rattle.base_numbers.proofs.Laws.NumberLaws.{bytes_first}
use Rattle.mbus_rules.specs.Moments.{date_exists, time_exists, weekday_exists}
use Rattle.mbus_rules.specs.Quantities.{width_of, paired, is_time, is_binary, structures, no_structure, has_structure, structure_of}
use Rattle.base_rules.proofs.Laws.TestLaws.{none, picked}
use Rattle.mbus_rules.proofs.Laws.HeaderLaws.{header_length}
use Rattle.mbus_rules.proofs.Laws.EntryLaws.{six_wide, entry_written}
use Rattle.mbus_rules.proofs.Laws.LengthLaws.{entries_least, entries_most}
use Rattle.mbus_rules.proofs.Laws.RowLaws.{width_most, found_each}
use Rattle.mbus_rules.proofs.Laws.LineLaws.{GoodData, good_data}
use Rattle.mbus_rules.specs.Writing.{bytes_of_value, bytes_of_entry, bytes_of_entries, bytes_of_kind, wrong_value, wrong_entry, wrong_data, entries_of, bytes_of_header}
use Rattle.base_characters.specs.Closing.{closed}
use Rattle.mbus_rules.specs.Writing.{longest, unwritable}
use Rattle.mbus_writing.specs.Laying.{marked_at, signed_six, eight_bytes, exists, EntryFits, EntryLaid, EntriesFit, EntriesLaid}
use Rattle.mbus_writing.specs.Laying.{FrameClosed, BytesLaid, DataFits}

-- ---- a loop that copies with parity, and one that sums

-- ---- entries one after the other

-- a value of a right entry, cut to its width
packed_cut : (k w n : ℕ) → w ≤ k → take w (packed k n) ≡ packed w n
unfolding packed
packed_cut k zero n h = refl
packed_cut zero (suc w) n h = absurd (not-suc-le-zero h)
packed_cut (suc k) (suc w) n h = ap (λ (l : List ℕ). (16 * (n / 10 % 10) + n % 10) ∷ l) (packed_cut k w (n / 100) (omega arith))

-- the mark is put at the width of the cut
mark_cut : (k w n : ℕ) → suc w ≤ k → 10 * n < 100 ^ suc w
    → take (suc w) (set (packed k n) w (0xF0 + at (packed k n) w % 16)) ≡ marked (packed (suc w) n)
unfolding packed marked
mark_cut zero w n h f = absurd (not-suc-le-zero h)
mark_cut (suc k) zero n h f =
    let few : n < 10 = omega arith in
    let low : (16 * (n / 10 % 10) + n % 10) % 16 ≡ 16 * (n / 10 % 10) + n % 10 = omega arith in
    ap (λ (x : ℕ). (0xF0 + x) ∷ []) low
mark_cut (suc k) (suc w) n h f =
    let p : 100 ^ suc (suc w) ≡ 100 * 100 ^ suc w = pow-succ' 100 (suc w) in
    let q : 100 ^ suc w ≡ 100 * 100 ^ w = pow-succ' 100 w in
    let x : ℕ = 16 * (n / 10 % 10) + n % 10 in
    let l : length (packed (suc w) (n / 100)) ≡ suc w = length_packed (suc w) (n / 100) in
    ap (λ (l : List ℕ). x ∷ l) (mark_cut k w (n / 100) (omega arith) (omega arith)) ∙ sym (marked_cons x (packed (suc w) (n / 100)) (omega arith))

-- a number below zero that fits has a place for its sign
pub sign_wide : (w : ℕ) (z : ℤ) → fits_signed w z ≡ true → below_zero z ≡ true → 1 ≤ w
sign_wide w (pos n) f e = absurd (false≢true e)
sign_wide (suc w) (negsuc n) f e = omega arith
sign_wide zero (negsuc n) f e = absurd (none_fits n (ltb-true (10 * suc n) (100 ^ 0) f))
  where
    none_fits : (n : ℕ) → 10 * suc n < 1 → ⊥
    none_fits n h = omega arith

number_cut : (w : ℕ) (z : ℤ) → w ≤ 6 → fits_signed w z ≡ true → take w (signed_six w z) ≡ signed_bytes w z
number_cut w (pos n) h f = packed_cut 6 w n h
number_cut (suc w) (negsuc n) h f =
    let last : suc w - 1 ≡ w = omega arith in
    rw last (mark_cut 6 w (suc n) h (ltb-true (10 * suc n) (100 ^ suc w) f))
number_cut zero (negsuc n) h f = absurd (not-suc-le-zero (sign_wide zero (negsuc n) f refl))

-- six bytes, widened to eight, are cut as they were
widened_cut : (w : ℕ) (b more : List ℕ) → w ≤ length b → take w (b ++ more) ≡ take w b
widened_cut zero b more h = refl
widened_cut (suc w) [] more h = absurd (not-suc-le-zero h)
widened_cut (suc w) (x ∷ b) more h = ap (λ (l : List ℕ). x ∷ l) (widened_cut w b more (omega arith))

signed_length : (w : ℕ) (z : ℤ) → length (signed_six w z) ≡ 6
signed_length w z =
    picked (λ (l : List ℕ). length l ≡ 6) (below_zero z) (marked_at w (packed 6 (nat_abs z))) (packed 6 (nat_abs z))
    (length-set (packed 6 (nat_abs z)) (w - 1) (0xF0 + at (packed 6 (nat_abs z)) (w - 1) % 16) ∙ length_packed 6 (nat_abs z)) (length_packed 6 (nat_abs z))

-- the lowest bytes of a number below zero are the same in any width that it fits
below_cut : (k w n : ℕ) → w ≤ k → suc n ≤ 256 ^ w → bytes_of w (256 ^ k - suc n) ≡ bytes_of w (256 ^ w - suc n)
unfolding bytes_of
below_cut k zero n h f = refl
below_cut zero (suc w) n h f = absurd (not-suc-le-zero h)
below_cut (suc k) (suc w) n h f =
    let p : 256 ^ suc k ≡ 256 * 256 ^ k = pow-succ' 256 k in
    let q : 256 ^ suc w ≡ 256 * 256 ^ w = pow-succ' 256 w in
    let less : 256 ^ w ≤ 256 ^ k = pow-le-pow_right (omega arith) {j = k} (omega arith) in
    let low : (256 ^ suc k - suc n) % 256 ≡ (256 ^ suc w - suc n) % 256 = omega arith in
    let high-k : (256 ^ suc k - suc n) / 256 ≡ 256 ^ k - suc (n / 256) = omega arith in
    let high-w : (256 ^ suc w - suc n) / 256 ≡ 256 ^ w - suc (n / 256) = omega arith in
    ap₂ (λ (x : ℕ) (l : List ℕ). x ∷ l) low
    (ap (bytes_of w) high-k ∙ below_cut k w (n / 256) (omega arith) (omega arith) ∙ sym (ap (bytes_of w) high-w))

binary_cut : (w : ℕ) (z : ℤ) → w ≤ 8 → fits_binary w z ≡ true → take w (binary_bytes 8 z) ≡ binary_bytes w z
binary_cut w (pos n) h f = bytes_first w 8 n h
binary_cut w (negsuc n) h f =
    bytes_first w 8 (256 ^ 8 - suc n) h ∙ below_cut 8 w n h (omega (arith, leb-true (2 * suc n) (256 ^ w) f))

-- digits have at most six bytes
packed_most : (st : ℕ) → is_binary st ≡ false → width_of st ≤ 6
unfolding width_of
packed_most st e =
    leb-true (structure_of st).width 6 (rw e at (found_each (has_structure st) (λ r. cond r.binary true (leb r.width 6)) no_structure structures refl))

value_cut : (st u : ℕ) (v : Value) → (is_time u ≡ true → width_of st ≡ 6) → wrong_value st u v ≡ false
    → (take (width_of st) (eight_bytes (width_of st) v) ≡ bytes_of_value (width_of st) v) × (exists (width_of st) v ≡ true)
value_cut st u (Number d) six e =
    let w : ℕ = width_of st in
    let k = none (is_time u) (is_binary st ∷ not (fits_signed w d.count) ∷ (below_zero d.count && not (may_fall u)) ∷ []) e in
    let f : fits_signed w d.count ≡ true = not-false (fits_signed w d.count) k.1.1.0 in
    let h : width_of st ≤ 6 = packed_most st k.1.0 in (
      widened_cut w (signed_six w d.count) (0 ∷ 0 ∷ []) (omega (arith, signed_length w d.count)) ∙ number_cut w d.count h f,
      rw (le-leb w 6 h, f),
    )
value_cut st u (Binary d) six e =
    let w : ℕ = width_of st in
    let k = none (is_time u) (not (is_binary st) ∷ not (fits_binary w d.count) ∷ (below_zero d.count && not (may_fall u)) ∷ []) e in
    (binary_cut w d.count (width_most st) (not-false (fits_binary w d.count) k.1.1.0), refl)
value_cut st u (Time m) six e =
    let k = none (not (is_time u)) (not (date_exists m) ∷ not (time_exists m) ∷ not (weekday_exists m) ∷ []) e in
    let n : width_of st ≡ 6 = six (not-false (is_time u) k.0) in
    (rw n, rw (not-false (date_exists m) k.1.0, not-false (time_exists m) k.1.1.0, not-false (weekday_exists m) k.1.1.1.0))

pub record EntryCut (e : Entry) : Type 0 where
  pub cut : take (2 + width_of e.structure) (e.structure ∷ e.unit ∷ eight_bytes (width_of e.structure) e.value) ≡ bytes_of_entry e
  pub there : exists (width_of e.structure) e.value ≡ true
  pub width : length (bytes_of_entry e) ≡ 2 + width_of e.structure
  pub most : width_of e.structure ≤ 8

pub entry_cut : (e : Entry) → wrong_entry e ≡ false → EntryCut e
entry_cut e h =
    let st : ℕ = e.structure in
    let w : ℕ = width_of e.structure in
    let k = none (not (paired st e.unit)) (wrong_value st e.unit e.value ∷ []) h in
    let v = value_cut st e.unit e.value (six_wide st e.unit (not-false (paired st e.unit) k.0)) k.1.0 in
    record {
      cut = take-add 2 w (st ∷ e.unit ∷ eight_bytes (width_of e.structure) e.value) ∙ ap (λ (l : List ℕ). st ∷ e.unit ∷ l) v.0;
      there = v.1;
      width = (entry_written e [] h).width;
      most = width_most st;
    }

pub entry_laid : {e : Entry} {before after : List ℕ} {at width : ℕ} → EntryFits e before at → width ≡ 2 + width_of e.structure
    → after ≡ copied before at (take width (e.structure ∷ e.unit ∷ eight_bytes (width_of e.structure) e.value)) → EntryLaid e before after at (at + width)
entry_laid {e} {before} {after} {at} {width} f w l =
    let c : EntryCut e = entry_cut e f.right in
    let same : take width (e.structure ∷ e.unit ∷ eight_bytes (width_of e.structure) e.value) ≡ bytes_of_entry e =
    ap (λ (k : ℕ). take k (e.structure ∷ e.unit ∷ eight_bytes (width_of e.structure) e.value)) w ∙ c.cut in
    let room : at + length (bytes_of_entry e) ≤ length before = omega (arith, f.room, f.size) in
    record { bytes = l ∙ ap (copied before at) same ∙ copied_fits before at (bytes_of_entry e) room; so = ap (λ (k : ℕ). at + k) (w ∙ sym c.width) }

entries_append : (a b : List Entry) → bytes_of_entries (a ++ b) ≡ bytes_of_entries a ++ bytes_of_entries b
unfolding bytes_of_entries
entries_append [] b = refl
entries_append (e ∷ a) b = ap (λ (l : List ℕ). bytes_of_entry e ++ l) (entries_append a b) ∙ sym (append_assoc (bytes_of_entry e) (bytes_of_entries a)
    (bytes_of_entries b))

-- the first of them take no more than all
entries_front : (j : ℕ) (s : List Entry) → length (bytes_of_entries (take j s)) ≤ length (bytes_of_entries s)
entries_front j s =
    let both : bytes_of_entries s ≡ bytes_of_entries (take j s) ++ bytes_of_entries (drop j s) =
    ap bytes_of_entries (sym (take-append-drop j s)) ∙ entries_append (take j s) (drop j s) in
    let sum : length (bytes_of_entries s) ≡ length (bytes_of_entries (take j s)) + length (bytes_of_entries (drop j s)) =
    ap length both ∙ length-append (bytes_of_entries (take j s)) (bytes_of_entries (drop j s)) in
    omega arith

entries_more : (entries : List Entry) (i : ℕ) (d : Entry) → i < length entries → bytes_of_entries (take (suc i) entries)
    ≡ bytes_of_entries (take i entries) ++ bytes_of_entry (get_or entries i d)
unfolding bytes_of_entries
entries_more entries i d h =
    ap bytes_of_entries (take-suc entries i d h) ∙ entries_append (take i entries) (get_or entries i d ∷ [])
    ∙ ap (λ (l : List ℕ). bytes_of_entries (take i entries) ++ l) (append-nil (bytes_of_entry (get_or entries i d)))

-- the entries so far
pub record Laying (entries : List Entry) (count : ℕ) (before : List ℕ) (i at : ℕ) (now : List ℕ) : Type 0 where
  pub fit : EntriesFit entries count before
  pub places : length entries ≡ 7
  pub inside : i ≤ count
  pub bytes : now ≡ laid before 19 (bytes_of_entries (take i entries))
  pub so : at ≡ 19 + length (bytes_of_entries (take i entries))
  pub same : length now ≡ longest

pub laying_none : {entries : List Entry} {count : ℕ} {before : List ℕ} → length entries ≡ 7 → EntriesFit entries count before
    → Laying entries count before 0 19 before
unfolding bytes_of_entries
laying_none {entries} {count} {before} n f = record {
  fit = f;
  places = n;
  inside = zero-le;
  bytes = sym (laid_none before 19);
  so = refl;
  same = f.room;
}

module _ {entries : List Entry} {count : ℕ} {before : List ℕ} {i at : ℕ} {now : List ℕ} (g : Laying entries count before i at now) (h : i < count)
    (d : Entry) where
  pub laying_fits : EntryFits (get_or entries i d) now at
  laying_fits =
      let e : Entry = get_or entries i d in
      let f : EntriesFit entries count before = g.fit in
      let seven : length entries ≡ 7 = g.places in
      let size : length (take count entries) ≡ count = length-take-le count entries (omega arith) in
      let right : wrong_entry e ≡ false = rw (get_or-take count entries i d h) at (none_at wrong_entry (take count entries) d i f.right (omega arith)) in
      let most : length (bytes_of_entries (take (suc i) entries)) ≤ length (bytes_of_entries (take count entries)) =
      rw (take-take (suc i) count entries h) at (entries_front (suc i) (take count entries)) in
      let end : 19 + length (bytes_of_entries (take count entries)) + 2 ≤ longest = f.most in
      let more : length (bytes_of_entries (take (suc i) entries)) ≡ length (bytes_of_entries (take i entries)) + length (bytes_of_entry e) =
      ap length (entries_more entries i d (omega arith)) ∙ length-append (bytes_of_entries (take i entries)) (bytes_of_entry e) in
      let place : at ≡ 19 + length (bytes_of_entries (take i entries)) = g.so in
      record { right = right; room = omega arith; size = g.same }

  pub laying_next : {next : List ℕ} {to : ℕ} → EntryLaid (get_or entries i d) now next at to → Laying entries count before (i + 1) to next
  laying_next {next} {to} l =
      let x : Entry = get_or entries i d in
      let done : List ℕ = bytes_of_entries (take i entries) in
      let seven : length entries ≡ 7 = g.places in
      let few : count ≤ 7 = g.fit.few in
      let size : length before ≡ longest = g.fit.room in
      let same : length now ≡ longest = g.same in
      let f : EntryFits (get_or entries i d) now at = laying_fits in
      let more : bytes_of_entries (take (suc i) entries) ≡ done ++ bytes_of_entry x = entries_more entries i d (omega arith) in
      let long : length (bytes_of_entries (take (suc i) entries)) ≡ length done + length (bytes_of_entry x) = ap length more
      ∙ length-append done (bytes_of_entry x) in
      let on : laid (laid before 19 done) (19 + length done) (bytes_of_entry x) ≡ laid before 19 (done ++ bytes_of_entry x) = laid_on before 19 done
      (bytes_of_entry x) (omega arith) in
      record {
        fit = g.fit;
        places = seven;
        inside = omega arith;
        bytes = l.bytes ∙ ap₂ (λ (b : List ℕ) (k : ℕ). laid b k (bytes_of_entry x)) g.bytes g.so ∙ on ∙ rw (add-one, more);
        so = rw add-one (omega (arith, g.so, l.so));
        same = ap length l.bytes ∙ laid_length now (bytes_of_entry x) at (omega arith) ∙ same;
      }

pub laying_all : {entries : List Entry} {count : ℕ} {before : List ℕ} {i at : ℕ} {now : List ℕ} → Laying entries count before i at now → count ≤ i
    → EntriesLaid (take count entries) before now at
laying_all {entries} {count} {before} {i} {at} {now} g h =
    let inside : i ≤ count = g.inside in
    let e : i ≡ count = omega arith in
    record {
      bytes = g.bytes ∙ ap (λ (k : ℕ). laid before 19 (bytes_of_entries (take k entries))) e;
      so = g.so ∙ ap (λ (k : ℕ). 19 + length (bytes_of_entries (take k entries))) e;
    }

part_cut : (b : List ℕ) (from end : ℕ) → from ≤ end → end ≤ length b → take (end - from) (drop from b) ≡ drop from (take end b)
part_cut b from end h k =
    let e : end ≡ from + (end - from) = omega arith in
    let n : length (take from b) ≡ from = length-take-le from b (omega arith) in
    sym (ap (λ (j : ℕ). drop from (take j b)) e ∙ ap (drop from) (take-add from (end - from) b)
    ∙ drop_at (take from b) (take (end - from) (drop from b)) from n)

pub frame_closed : {before after : List ℕ} {from end sum : ℕ} → (from ≤ end) × (end + 2 ≤ longest) × (length before ≡ longest) → sum
    ≡ total (take (end - from) (drop from before)) % 256
    → after ≡ copied before end (sum ∷ 0x16 ∷ []) → FrameClosed before after from end (end + 2)
frame_closed {before} {after} {from} {end} {sum} h e l =
    let part : take (end - from) (drop from before) ≡ drop from (take end before) = part_cut before from end h.0 (omega arith) in
    let fits : copied before end (sum ∷ 0x16 ∷ []) ≡ laid before end (sum ∷ 0x16 ∷ []) = copied_fits before end (sum ∷ 0x16 ∷ []) (omega arith) in
    record {
      bytes =
          ap (take (end + 2)) (l ∙ fits) ∙ laid_front before (sum ∷ 0x16 ∷ []) end (omega arith)
          ∙ ap (λ (x : ℕ). take end before ++ (x ∷ 0x16 ∷ [])) (e ∙ ap (λ (q : List ℕ). total q % 256) part);
      so = refl;
    }

-- a frame that was begun with s is s, closed
pub frame_laid : {before after : List ℕ} {from end next : ℕ} (s : List ℕ) → FrameClosed before after from end next → take end before ≡ s → length s ≡ end
    → BytesLaid (s ++ (total (drop from s) % 256 ∷ 0x16 ∷ [])) after next
frame_laid {before} {after} {from} {end} {next} s c e n =
    record {
      bytes = c.bytes ∙ ap (λ (q : List ℕ). q ++ (total (drop from q) % 256 ∷ 0x16 ∷ [])) e;
      so = c.so ∙ ap (λ (k : ℕ). k + 2) (sym n) ∙ sym (length-append s (total (drop from s) % 256 ∷ 0x16 ∷ []));
    }

-- what is copied to the first place stands there
pub front_laid : (d : List ℕ) {after : List ℕ} (s : List ℕ) → length s ≤ length d → after ≡ copied d 0 s → take (length s) after ≡ s
front_laid d {after} s h e = ap (take (length s)) (e ∙ copied_fits d 0 s (omega arith)) ∙ take-append_seam s (drop (length s) d)

module _ {t : Telegram} {before : List ℕ} (f : DataFits t before) where
  pub entries_fit : EntriesFit t.entries t.count before
  entries_fit =
      let g : GoodData t = good_data t f.right in
      let most : length (bytes_of_entries (entries_of t)) ≤ 68 = entries_most (entries_of t) g.good.right g.good.whole g.good.few in
      record { few = g.count; right = g.good.right; most = omega arith; room = f.room }

  -- the place after the entries
  pub entries_end : {after : List ℕ} {end : ℕ} → EntriesLaid (entries_of t) before after end → (39 ≤ end) × (end + 2 ≤ longest)
  entries_end {after} {end} l =
      let g : GoodData t = good_data t f.right in
      let least : 20 ≤ length (bytes_of_entries (entries_of t)) = entries_least (entries_of t) g.good.right g.good.whole in
      let most : length (bytes_of_entries (entries_of t)) ≤ 68 = entries_most (entries_of t) g.good.right g.good.whole g.good.few in
      let so : end ≡ 19 + length (bytes_of_entries (entries_of t)) = l.so in
      omega arith

  -- the entries, then the start before them, then the end
  pub data_laid : {first second last : List ℕ} {end next : ℕ} {head : List ℕ} → EntriesLaid (entries_of t) before first end
      → head ≡ 0x68 ∷ (end - 4) ∷ (end - 4) ∷ 0x68 ∷ 0x08 ∷ t.address ∷ 0x72 ∷ bytes_of_header t.header → second ≡ copied first 0 head
      → FrameClosed second last 4 end next → BytesLaid (bytes_of_kind Data t) last next
  data_laid {first} {second} {last} {end} {next} {head} l e m c =
      let h : List ℕ = bytes_of_header t.header in
      let es : List ℕ = bytes_of_entries (entries_of t) in
      let body : List ℕ = 0x08 ∷ t.address ∷ 0x72 ∷ (h ++ es) in
      let start : List ℕ = 0x68 ∷ (end - 4) ∷ (end - 4) ∷ 0x68 ∷ 0x08 ∷ t.address ∷ 0x72 ∷ h in
      let rest : List ℕ = drop (length es) (drop 19 before) in
      let twelve : length h ≡ 12 = header_length t.header in
      let size : length (h ++ es) ≡ length h + length es = length-append h es in
      let so : end ≡ 19 + length es = l.so in
      let room : length before ≡ longest = f.room in
      let begins : length start ≡ 19 = omega arith in
      let past : drop 19 first ≡ es ++ rest =
      ap (drop 19) l.bytes ∙ drop_at (take 19 before) (es ++ rest) 19 (length-take-le 19 before (omega arith)) in
      let same : length first ≡ length before = ap length l.bytes ∙ laid_length before es 19 (omega (arith, entries_end l)) in
      let whole : second ≡ start ++ es ++ rest =
      m ∙ ap (copied first 0) e ∙ copied_fits first 0 start (omega arith) ∙ ap (λ (k : ℕ). start ++ drop k first) begins ∙ ap
      (λ (q : List ℕ). start ++ q) past ∙ sym (append_assoc start es rest) in
      let count : length (start ++ es) ≡ end = length-append start es ∙ omega arith in
      let front : take end second ≡ start ++ es = ap (take end) whole ∙ take_at (start ++ es) rest end count in
      let b : BytesLaid (start ++ es ++ (total body % 256 ∷ 0x16 ∷ [])) last next = frame_laid (start ++ es) c front count in
      let long : end - 4 ≡ length body = omega arith in
      subst (λ (k : ℕ). BytesLaid (0x68 ∷ k ∷ k ∷ 0x68 ∷ closed body) last next) long b

-- ---- each kind

pub kind_laid : (t : Telegram) {k : Kind} {after : List ℕ} {n : ℕ} → t.kind ≡ k → BytesLaid (bytes_of_kind k t) after n
    → BytesLaid (bytes_of_kind t.kind t) after n
kind_laid t {k} {after} {n} e b = subst (λ (x : Kind). BytesLaid (bytes_of_kind x t) after n) (sym e) b

pub ack_laid : (d : List ℕ) {after : List ℕ} → length d ≡ longest → after ≡ copied d 0 (0xE5 ∷ []) → BytesLaid (0xE5 ∷ []) after 1
ack_laid d n e = record { bytes = front_laid d (0xE5 ∷ []) (omega arith) e; so = refl }

pub data_fits : (t : Telegram) {before : List ℕ} → t.kind ≡ Data → unwritable t ≡ false → length before ≡ longest → DataFits t before
unfolding unwritable
data_fits t e w n = record { right = (none (ltb 0 t.method) (wrong_data t ∷ []) (rw e at w)).1.0; room = n }
