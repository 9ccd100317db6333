-- Laws of `specs/TelegramLaws`.
use Prim.Native.Nat.{ℕ, zero, suc, ◌-◌, ◌≤◌}
use mathlib.Core.Bool.{true, false, true≢false, false≢true}
use mathlib.Core.List.{List, [], ◌∷◌, ◌++◌}
use mathlib.Core.Path.{◌≡◌, refl, sym, ap, ap₂, ◌∙◌}
use native.Mathlib.Omega.{arith}
use borrow.Author.Tests.{ltb-false, le-ltb, eqb-true, not-false}
use lib.Dec.{ltb}
use lib.IntN.{ℤ, pos, negsuc}
use lib.ListN.{length, drop, replicate, length-drop, take-append-drop}
use lib.Seq.{take-append_seam, drop-append_seam, length-take-le}
use Rattle.mbus_rules.specs.declared.Value.{Value}
use Rattle.mbus_rules.specs.declared.Value.TheVariants.{Number, Time, Binary}
use Rattle.mbus_rules.specs.declared.Kind.{Kind}
use Rattle.mbus_rules.specs.declared.Kind.TheVariants.{Data}
use Rattle.mbus_rules.specs.declared.Entry.{Entry}
use Rattle.mbus_rules.specs.declared.Header.{Header}
use Rattle.mbus_rules.specs.declared.Telegram.{Telegram}
use Rattle.base_rules.specs.Lists.{any}
use Rattle.base_numbers.specs.TwosComplement.{is_zero}
use Rattle.mbus_rules.specs.Telegrams.{blank_entry, blank_header, bare, data_of}
use Rattle.mbus_rules.specs.Entries.{missing}
use Rattle.mbus_rules.specs.Writing.{entries_of, used_value, used_entry, used_header, used_body, wrong_entry, unwritten_header, repeats, unwritable}
use Rattle.base_rules.proofs.Laws.TestLaws.{none}

-- ---- what is not used is blank

pub zero_of : (n : ℕ) → ltb 0 n ≡ false → n ≡ 0
zero_of n e = omega (arith, ltb-false 0 n e)

value_blank : (v : Value) → used_value v ≡ false → v ≡ blank_entry.value
value_blank (Number d) e = ap (λ (n : ℤ). Number (record { count = n })) (is_zero_lem d.count (not-false (is_zero d.count) e))
  where
    is_zero_lem : (z : ℤ) → is_zero z ≡ true → z ≡ pos 0
    is_zero_lem (pos n) h = ap pos (eqb-true n 0 h)
    is_zero_lem (negsuc n) h = absurd (false≢true h)
value_blank (Time m) e = absurd (true≢false e)
value_blank (Binary w) e = absurd (true≢false e)

entry_blank : (e : Entry) → used_entry e ≡ false → e ≡ blank_entry
entry_blank e h =
    let k = none (ltb 0 e.structure) (ltb 0 e.unit ∷ used_value e.value ∷ []) h in
    λ i. record { structure = zero_of e.structure k.0 i; unit = zero_of e.unit k.1.0 i; value = value_blank e.value k.1.1.0 i }

entries_blank : (es : List Entry) → any used_entry es ≡ false → es ≡ replicate (length es) blank_entry
unfolding any
entries_blank [] h = refl
entries_blank (e ∷ es) h =
    let k = none (used_entry e) (any used_entry es ∷ []) h in
    ap₂ (λ (x : Entry) (l : List Entry). x ∷ l) (entry_blank e k.0) (entries_blank es k.1.0)

header_blank : (h : Header) → used_header h ≡ false → h ≡ blank_header
header_blank h e =
    let k = none (ltb 0 h.number) (ltb 0 h.maker ∷ ltb 0 h.version ∷ ltb 0 h.meter_type ∷ ltb 0 h.access ∷ ltb 0 h.status ∷ []) e in
    λ i. record {
      number = zero_of h.number k.0 i;
      maker = zero_of h.maker k.1.0 i;
      version = zero_of h.version k.1.1.0 i;
      meter_type = zero_of h.meter_type k.1.1.1.0 i;
      access = zero_of h.access k.1.1.1.1.0 i;
      status = zero_of h.status k.1.1.1.1.1.0 i;
    }

-- ---- a telegram of each form

pub bare_back : (t : Telegram) (k : Kind) (m : ℕ) → t.kind ≡ k → t.method ≡ m → length t.entries ≡ 7 → used_body t ≡ false → t ≡ bare k t.address m
bare_back t k m p q seven h =
    let u = none (used_header t.header) (ltb 0 t.count ∷ any used_entry t.entries ∷ []) h in
    let entries : t.entries ≡ replicate 7 blank_entry = entries_blank t.entries u.1.1.0 ∙ ap (λ (n : ℕ). replicate n blank_entry) seven in
    λ i. record {
      kind = p i;
      address = t.address;
      method = q i;
      header = header_blank t.header u.0 i;
      count = zero_of t.count u.1.0 i;
      entries = entries i;
    }

pub data_back : (t : Telegram) → t.kind ≡ Data → t.method ≡ 0 → length t.entries ≡ 7 → t.count ≤ 7 → any used_entry (drop t.count t.entries)
    ≡ false → t ≡ data_of t.address t.header (entries_of t)
data_back t p q seven few h =
    let n : length (entries_of t) ≡ t.count = length-take-le t.count t.entries (omega arith) in
    let left : length (drop t.count t.entries) ≡ 7 - length (entries_of t) = length-drop t.count t.entries ∙ rw (seven, n) in
    let rest : drop t.count t.entries ≡ replicate (7 - length (entries_of t)) blank_entry =
    entries_blank (drop t.count t.entries) h ∙ ap (λ (k : ℕ). replicate k blank_entry) left in
    let entries : t.entries ≡ entries_of t ++ replicate (7 - length (entries_of t)) blank_entry =
    sym (take-append-drop t.count t.entries) ∙ ap (λ (l : List Entry). entries_of t ++ l) rest in
    λ i. record { kind = p i; address = t.address; method = q i; header = t.header; count = sym n i; entries = entries i }

-- ---- and the data telegrams that reading makes can be written

blank_unused : (n : ℕ) → any used_entry (replicate n blank_entry) ≡ false
unfolding any
blank_unused zero = refl
blank_unused (suc n) = blank_unused n

module _ (a : ℕ) (h : Header) (es : List Entry) where
  pub data_entries : entries_of (data_of a h es) ≡ es
  data_entries = take-append_seam es (replicate (7 - length es) blank_entry)

  pub data_writable : unwritten_header h ≡ false → any wrong_entry es ≡ false → repeats [] es ≡ false → missing es ≡ false → length es ≤ 7
      → unwritable (data_of a h es) ≡ false
  unfolding unwritable
  data_writable header right once whole few =
      let rest : any used_entry (drop (length es) (es ++ replicate (7 - length es) blank_entry)) ≡ false =
      ap (any used_entry) (drop-append_seam es (replicate (7 - length es) blank_entry)) ∙ blank_unused (7 - length es) in
      rw (header, le-ltb 7 (length es) few, data_entries, right, once, whole, rest)
