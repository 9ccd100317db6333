-- One entry both ways, and all entries both ways.
use Prim.Native.Nat.{ℕ, zero, suc, ◌+◌, ◌<◌, ◌≤◌, zero-le}
use mathlib.Core.Bool.{Bool, true, false, not, ◌&&◌, ◌||◌, false≢true, and-false}
use mathlib.Core.List.{List, [], ◌∷◌, ◌++◌, append_assoc, append-nil}
use mathlib.Core.Path.{◌≡◌, refl, sym, ap, ap₂, ◌∙◌}
use native.Mathlib.Omega.{arith}
use borrow.Author.Tests.{ltb-false, le-ltb, eqb-true, ne_eqb, not-false}
use lib.Dec.{ltb}
use lib.ListN.{length, take, drop, length-drop, length-append, take-append-drop, drop_of_length-le}
use lib.Seq.{length-take-le, take-add, take_at, drop_at, drop-drop}
use Rattle.mbus_rules.specs.declared.Value.{Value}
use Rattle.mbus_rules.specs.declared.Value.TheVariants.{Number, Time, Binary}
use Rattle.mbus_rules.specs.declared.Entry.{Entry}
use Rattle.base_rules.specs.Lists.{at, any}
use Rattle.base_rules.specs.Answers.{reads, refuse}
use Rattle.mbus_rules.specs.Moments.{date_exists, time_exists, weekday_exists, wrong_moment}
use Rattle.mbus_rules.specs.Quantities.{quantity_of, width_of, paired, is_time, is_packed, is_binary}
use Rattle.mbus_rules.specs.Entries.{may_fall, value_bytes, entry_width, value_of, entry_of, unfit, wrong_number, wrong_digit, wrong_time}
use Rattle.mbus_rules.specs.Entries.{seen, missing, read_entries}
use Rattle.mbus_rules.specs.Writing.{bytes_of_value, bytes_of_entry, bytes_of_entries, wrong_value, wrong_entry, repeats}
use Rattle.base_rules.proofs.Laws.TestLaws.{none, refusals, all_passed, all_passing}
use Rattle.base_rules.proofs.Laws.Tests.{by_test, neither, passed}
use Rattle.base_rules.proofs.Laws.AnswerLaws.{reads_same}
use Rattle.mbus_rules.proofs.Laws.RowLaws.{unit_past, structure_past}
use Rattle.base_rules.specs.Bytes.{Bytes}
use Rattle.base_rules.proofs.Laws.ByteLaws.{bytes_append, bytes_take, bytes_drop, spell}
use Rattle.mbus_rules.specs.Signs.{minus, wrong_signed, fits_signed}
use Rattle.base_numbers.specs.TwosComplement.{below_zero, fits_binary}
use Rattle.mbus_rules.proofs.Laws.SignLaws.{SignedRead, signed_read, SignedWritten, signed_written}
use Rattle.base_numbers.proofs.Laws.BinaryLaws.{BinaryRead, binary_read, BinaryWritten, binary_written}
use Rattle.mbus_rules.proofs.Laws.MomentLaws.{MomentRead, moment_read, MomentWritten, moment_written}
use Rattle.mbus_rules.proofs.Laws.Seven.{Different, different_last, different_few, fit_known}

-- ---- the value

record ValueRead (st u : ℕ) (b : List ℕ) : Type 0 where
  pub back : bytes_of_value (width_of st) (value_of st u b) ≡ b
  pub right : wrong_value st u (value_of st u b) ≡ false

value_read : (st u : ℕ) (b : List ℕ) → length b ≡ width_of st → (is_time u ≡ true → width_of st ≡ 6) → Bytes b → wrong_number st u b ≡ false
    → (is_time u && wrong_moment b) ≡ false → ValueRead st u b
value_read st u b e six bytes digits moment = by_test (is_time u) timed (λ q. by_test (is_binary st) (coded q) (counted q))
  where
    timed : is_time u ≡ true → ValueRead st u b
    timed q =
        let m : MomentRead b = moment_read b (e ∙ six q) bytes (rw q at moment) in
        record {
          back = rw q m.back;
          right = rw (q, q, m.date, m.hour, m.weekday);
        }

    coded : is_time u ≡ false → is_binary st ≡ true → ValueRead st u b
    coded q n =
        let r : BinaryRead b = binary_read b bytes in
        record {
          back = rw (q, n, ← e) r.back;
          right = rw (q, n, q, n, ← e, r.fits, r.sign) (rw (q, n) at digits);
        }

    counted : is_time u ≡ false → is_binary st ≡ false → ValueRead st u b
    counted q n =
        let d = neither (wrong_signed b) (minus b && not (may_fall u)) (rw (q, n) at digits) in
        let r : SignedRead b = signed_read b bytes d.0 in
        record {
          back = rw (q, n, ← e) r.back;
          right = rw (q, n, q, n, ← e, r.fits, r.sign) d.1;
        }

record ValueWritten (st u : ℕ) (v : Value) : Type 0 where
  pub width : length (bytes_of_value (width_of st) v) ≡ width_of st
  pub back : value_of st u (bytes_of_value (width_of st) v) ≡ v
  pub digits : wrong_number st u (bytes_of_value (width_of st) v) ≡ false
  pub moment : (is_time u && wrong_moment (bytes_of_value (width_of st) v)) ≡ false
  pub bytes : Bytes (bytes_of_value (width_of st) v)

value_written : (st u : ℕ) (v : Value) → (is_time u ≡ true → width_of st ≡ 6) → wrong_value st u v ≡ false → ValueWritten st u v
value_written st u (Number d) six e =
    let w : ℕ = width_of st in
    let k = none (is_time u) (is_binary st ∷ not (fits_signed w d.count) ∷ (below_zero d.count && not (may_fall u)) ∷ []) e in
    let s : SignedWritten w d.count = signed_written w d.count (not-false (fits_signed w d.count) k.1.1.0) in
    record {
      width = s.width;
      back = rw (k.0, k.1.0, s.back);
      digits = rw (k.0, k.1.0, s.right, s.sign) k.1.1.1.0;
      moment = rw k.0;
      bytes = s.bytes;
    }
value_written st u (Binary d) six e =
    let w : ℕ = width_of st in
    let k = none (is_time u) (not (is_binary st) ∷ not (fits_binary w d.count) ∷ (below_zero d.count && not (may_fall u)) ∷ []) e in
    let s : BinaryWritten w d.count = binary_written w d.count (not-false (fits_binary w d.count) k.1.1.0) in
    let n : is_binary st ≡ true = not-false (is_binary st) k.1.0 in
    record {
      width = s.width;
      back = rw (k.0, n, s.back);
      digits = rw (k.0, n, s.sign) k.1.1.1.0;
      moment = rw k.0;
      bytes = s.bytes;
    }
value_written st u (Time m) six e =
    let k = none (not (is_time u)) (not (date_exists m) ∷ not (time_exists m) ∷ not (weekday_exists m) ∷ []) e in
    let q : is_time u ≡ true = not-false (is_time u) k.0 in
    let s : MomentWritten m =
    moment_written m (not-false (date_exists m) k.1.0) (not-false (time_exists m) k.1.1.0) (not-false (weekday_exists m) k.1.1.1.0) in
    record {
      width = sym (six q);
      back = rw (q, s.back);
      digits = rw q;
      moment = rw (q, s.right);
      bytes = s.bytes;
    }

-- ---- one entry

-- a point in time is six bytes wide
pub six_wide : (st u : ℕ) → paired st u ≡ true → is_time u ≡ true → width_of st ≡ 6
unfolding paired width_of
six_wide st u e q = rw (eqb-true st 0x06 (rw q at e))

-- the structures and units that 01 knows are bytes
paired_bytes : (st u : ℕ) → paired st u ≡ true → (st < 256) × (u < 256)
unfolding paired
paired_bytes st u e =
    let nost : 256 ≤ st → ⊥ = λ h.
    by_test (is_time u) (λ q. false≢true (rw (q, ne_eqb st 0x06 (omega arith)) at e))
    (λ q. false≢true (rw (q, structure_past st h) at e)) in
    let nou : 256 ≤ u → ⊥ = λ h. false≢true (rw (ne_eqb u 0x6D (omega arith), unit_past u h, and-false (is_packed st || is_binary st)) at e) in
    omega arith

pub record EntryRead (s : List ℕ) : Type 0 where
  pub back : bytes_of_entry (entry_of s) ≡ take (entry_width s) s
  pub right : wrong_entry (entry_of s) ≡ false
  pub ends : entry_width s ≤ length s

pub entry_read : (s : List ℕ) → Bytes s → unfit s ≡ false → wrong_digit s ≡ false → wrong_time s ≡ false → EntryRead s
entry_read s bytes e digits moment =
    let k = none (ltb (length s) 2) (not (paired (at s 0) (at s 1)) ∷ ltb (length s) (entry_width s) ∷ []) e in
    let pair : paired (at s 0) (at s 1) ≡ true = not-false (paired (at s 0) (at s 1)) k.1.0 in
    let w : length (value_bytes s) ≡ width_of (at s 0) =
    length-take-le (width_of (at s 0)) (drop 2 s) (rw (length-drop 2 s) (omega (arith, ltb-false))) in
    let v = value_read (at s 0) (at s 1) (value_bytes s) w (six_wide (at s 0) (at s 1) pair)
    (bytes_take (width_of (at s 0)) (drop 2 s) (bytes_drop 2 s bytes)) digits moment in
    record {
      back = rw (take-add 2 (width_of (at s 0)) s, spell 2 0 s (omega (arith, ltb-false))) (ap (λ (l : List ℕ). at s 0 ∷ at s 1 ∷ l) v.back);
      right = rw pair v.right;
      ends = omega (arith, ltb-false);
    }

pub record EntryWritten (e : Entry) (rest : List ℕ) : Type 0 where
  pub fit : unfit (bytes_of_entry e ++ rest) ≡ false
  pub digits : wrong_digit (bytes_of_entry e ++ rest) ≡ false
  pub moment : wrong_time (bytes_of_entry e ++ rest) ≡ false
  pub back : entry_of (bytes_of_entry e ++ rest) ≡ e
  pub after : drop (entry_width (bytes_of_entry e ++ rest)) (bytes_of_entry e ++ rest) ≡ rest
  pub width : length (bytes_of_entry e) ≡ 2 + width_of e.structure
  pub bytes : Bytes (bytes_of_entry e)

pub entry_written : (e : Entry) (rest : List ℕ) → wrong_entry e ≡ false → EntryWritten e rest
entry_written e rest h =
    let st : ℕ = e.structure in
    let u : ℕ = e.unit in
    let w : ℕ = width_of e.structure in
    let b : List ℕ = bytes_of_value (width_of e.structure) e.value in
    let k = none (not (paired st u)) (wrong_value st u e.value ∷ []) h in
    let pair : paired st u ≡ true = not-false (paired st u) k.0 in
    let known : (st < 256) × (u < 256) = paired_bytes st u pair in
    let v : ValueWritten st u e.value = value_written st u e.value (six_wide st u pair) k.1.0 in
    let cut : take w (b ++ rest) ≡ b = take_at b rest w v.width in
    let size : length (b ++ rest) ≡ w + length rest = length-append b rest ∙ ap (λ (n : ℕ). n + length rest) v.width in
    record {
      fit =
          rw (le-ltb (suc (suc (length (b ++ rest)))) 2 (omega arith), pair, le-ltb (suc (suc (length (b ++ rest)))) (2 + w) (omega arith));
      digits = rw cut v.digits;
      moment = rw cut v.moment;
      back = λ i. record { structure = st; unit = u; value = (ap (value_of st u) cut ∙ v.back) i };
      after = sym (drop-drop w 2 (st ∷ u ∷ (b ++ rest))) ∙ drop_at b rest w v.width;
      width = omega (arith, v.width);
      bytes = (known.0, (known.1, v.bytes));
    }

-- ---- all entries

pub record EntriesRead (s : List ℕ) (done es : List Entry) : Type 0 where
  pub more : List Entry
  pub joins : es ≡ done ++ more
  pub back : bytes_of_entries more ≡ s
  pub right : any wrong_entry more ≡ false
  pub once : repeats done more ≡ false
  pub whole : missing es ≡ false
  pub few : length es ≤ 7

-- an entry that is read, before others
entry_before : (s : List ℕ) (done es : List Entry) → EntryRead s → seen (quantity_of (at s 1)) done ≡ false
    → EntriesRead (drop (entry_width s) s) (done ++ (entry_of s ∷ [])) es → EntriesRead s done es
unfolding bytes_of_entries any repeats
entry_before s done es o unseen r =
    record {
      more = entry_of s ∷ r.more;
      joins = r.joins ∙ append_assoc done (entry_of s ∷ []) r.more;
      back = ap₂ (λ (a b : List ℕ). a ++ b) o.back r.back ∙ take-append-drop (entry_width s) s;
      right = ap₂ (λ (a b : Bool). a || b) o.right r.right;
      once = ap₂ (λ (a b : Bool). a || b) unseen r.once;
      whole = r.whole;
      few = r.few;
    }

-- what stands behind an entry
behind : (b : ℕ) (t : List ℕ) → drop (entry_width (b ∷ t)) (b ∷ t) ≡ drop (1 + width_of b) t
behind b t = let wide : entry_width (b ∷ t) ≡ suc (1 + width_of b) = omega arith in ap (λ (n : ℕ). drop n (b ∷ t)) wide

-- the bytes of an entry that are passed over
entries_passing : (k : ℕ) (s : List ℕ) (done : List Entry) → read_entries k s done ≡ read_entries 0 (drop k s) done
unfolding read_entries
entries_passing zero s done = refl
entries_passing (suc k) [] done = refl
entries_passing (suc k) (b ∷ s) done = entries_passing k s done

-- the chain of one entry, and then the others from behind it
pub entries_next : (b : ℕ) (t : List ℕ) (done : List Entry) → let s = b ∷ t in read_entries 0 s done
    ≡ refusals ((11, unfit s) ∷ (12, wrong_digit s) ∷ (13, wrong_time s) ∷ (14, seen (quantity_of (at s 1)) done) ∷ [])
    (read_entries 0 (drop (entry_width s) s) (done ++ (entry_of s ∷ [])))
unfolding read_entries
entries_next b t done = rw (entries_passing (1 + width_of b) t (done ++ (entry_of (b ∷ t) ∷ [])), behind b t)

-- nothing is left
entries_end : (done es : List Entry) → Different done → refuse 16 (missing done) (reads done) ≡ reads es → EntriesRead [] done es
unfolding bytes_of_entries any repeats
entries_end done es d e =
    let k = passed 16 (missing done) (reads done) es e in
    let same : done ≡ es = reads_same k.1 in
    record {
      more = [];
      joins = sym same ∙ sym (append-nil done);
      back = refl;
      right = refl;
      once = refl;
      whole = rw same at k.0;
      few = rw same at (different_few done d);
    }

pub entries_read : (k : ℕ) (s : List ℕ) (done es : List Entry) → Bytes s → Different done → read_entries k s done ≡ reads es
    → EntriesRead (drop k s) done es
unfolding read_entries
entries_read k [] done es bytes d e = rw (drop_of_length-le {A = ℕ} [] {i = k} zero-le) (entries_end done es d e)
entries_read (suc k) (b ∷ t) done es bytes d e = entries_read k t done es bytes.1 d e
entries_read zero (b ∷ t) done es bytes d e =
    let s : List ℕ = b ∷ t in
    let x : Entry = entry_of s in
    let k =
    all_passed ((11, unfit s) ∷ (12, wrong_digit s) ∷ (13, wrong_time s) ∷ (14, seen (quantity_of (at s 1)) done) ∷ [])
    (read_entries (1 + width_of b) t (done ++ (x ∷ []))) e in
    let o : EntryRead s = entry_read s bytes k.0.0 k.0.1.0 k.0.1.1.0 in
    let new : Different (done ++ (x ∷ [])) = different_last done x d (fit_known s k.0.0) k.0.1.1.1.0 in
    entry_before s done es o k.0.1.1.1.0
    (rw (behind b t) (entries_read (1 + width_of b) t (done ++ (x ∷ [])) es bytes.1 new k.1))

pub entries_written : (done more : List Entry) → any wrong_entry more ≡ false → repeats done more ≡ false → missing (done ++ more) ≡ false
    → read_entries 0 (bytes_of_entries more) done ≡ reads (done ++ more)
unfolding read_entries bytes_of_entries any repeats
entries_written done [] right once whole = rw (append-nil, rw append-nil at whole)
entries_written done (e ∷ more) right once whole =
    let r = none (wrong_entry e) (any wrong_entry more ∷ []) right in
    let o = none (seen (quantity_of e.unit) done) (repeats (done ++ (e ∷ [])) more ∷ []) once in
    let rest : List ℕ = bytes_of_entries more in
    let s : List ℕ = bytes_of_entry e ++ bytes_of_entries more in
    let w : EntryWritten e rest = entry_written e rest r.0 in
    entries_next e.structure (drop 1 s) done
    ∙ all_passing ((11, unfit s) ∷ (12, wrong_digit s) ∷ (13, wrong_time s) ∷ (14, seen (quantity_of (at s 1)) done) ∷ [])
    (read_entries 0 (drop (entry_width s) s) (done ++ (entry_of s ∷ [])))
    (w.fit, (w.digits, (w.moment, (o.0, tt))))
    ∙ ap₂ (λ (l : List ℕ) (x : Entry). read_entries 0 l (done ++ (x ∷ []))) w.after w.back
    ∙ entries_written (done ++ (e ∷ [])) more r.1.0 o.1.0 (rw append_assoc whole)
    ∙ ap (λ (l : List Entry). reads l) (append_assoc done (e ∷ []) more)

pub entries_bytes_lem : (es : List Entry) → any wrong_entry es ≡ false → Bytes (bytes_of_entries es)
unfolding any bytes_of_entries
entries_bytes_lem [] h = tt
entries_bytes_lem (e ∷ es) h =
    let k = none (wrong_entry e) (any wrong_entry es ∷ []) h in
    bytes_append (bytes_of_entry e) (bytes_of_entries es) (entry_written e [] k.0).bytes (entries_bytes_lem es k.1.0)
