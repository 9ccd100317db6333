-- Laws about the record of a meter: what is written for a meter is read as that meter, if some history leads to it.
use Prim.Native.Nat.{ℕ, zero, suc, ◌*◌, ◌/◌, ◌%◌, ◌^◌, ◌≤◌, ◌<◌}
use mathlib.Core.Bool.{true, false, cond, not, ◌&&◌, ◌||◌, true≢false}
use mathlib.Core.List.{List, [], ◌∷◌}
use mathlib.Core.Path.{◌≡◌, refl, sym, ap, subst, ◌∙◌}
use native.Mathlib.Nat.{lt_of_lt_of_le, lt_of_le_of_lt, pow-le-pow_right}
use native.Mathlib.Omega.{arith}
use borrow.Author.Tests.{eqb-true, ltb-true, ltb-false, leb-true, not-false}
use lib.Dec.{ltb, eqb, lit<, lit≤}
use lib.IntN.{ℤ, pos, negsuc, nat_abs}
use lib.ListN.{length, take, drop}
use mir.Syntax.{w64}
use mir.Val.{SFits}
use Rattle.bench_clock.specs.Times.{due, earlier}
use Rattle.mbus_rules.specs.declared.Entry.{Entry}
use Rattle.mbus_rules.specs.declared.Telegram.{Telegram}
use Rattle.mbus_rules.specs.declared.Value.{Value}
use Rattle.mbus_rules.specs.declared.Value.TheVariants.{Number, Time, Binary}
use Rattle.base_rules.specs.Answers.{Answer, reads, refusal, refuse, follow}
use Rattle.base_rules.proofs.Laws.AnswerLaws.{reads_same}
use Rattle.mbus_rules.specs.Headers.{letter, maker_named, heat_meter}
use Rattle.mbus_rules.proofs.Laws.RowLaws.{width_most}
use Rattle.mbus_rules.specs.Lines.{is_method}
use Rattle.base_rules.specs.Lists.{any}
use Rattle.mbus_rules.specs.Quantities.{width_of, paired, is_time, is_binary}
use Rattle.base_rules.proofs.Laws.TestLaws.{none, every}
use Rattle.base_rules.proofs.Laws.Tests.{neither, passed}
use Rattle.base_numbers.specs.TwosComplement.{is_zero, below_zero, fits_binary}
use Rattle.mbus_rules.specs.Entries.{may_fall}
use Rattle.mbus_rules.specs.Writing.{used_value, used_entry, wrong_value, wrong_entry}
use Rattle.base_numbers.specs.Numbers.{bytes_of}
use Rattle.base_numbers.proofs.Laws.Numbers.{number_bytes}
use Rattle.base_numbers.proofs.Laws.NumberLaws.{number_below, bytes_below}
use Rattle.meter_steps.specs.declared.Core.{Core}
use Rattle.meter_steps.specs.declared.Meter.{Meter}
use Rattle.meter_steps.specs.declared.Mode.{Mode}
use Rattle.meter_steps.specs.declared.Mode.TheVariants.{Use, Verifying}
use Rattle.meter_steps.specs.Meters.{zeros}
use Rattle.base_lent.specs.Recorded.{no_record}
use Rattle.base_lent.specs.Same.{same}
use Rattle.base_lent.proofs.Laws.Same.{same_equal, same_itself}
use Rattle.mbus_records.specs.Telegrams.{telegram_bytes, entries_in, telegram_in, telegram_from}
use Rattle.mbus_records.specs.Sizes.{ValueFits, ValuesFit, TelegramFits}
use Rattle.mbus_records.proofs.Laws.TelegramLaws.{telegram_read}
use Rattle.meter_template.specs.declared.Pair.{Pair}
use Rattle.meter_template.specs.Templates.{unfit_template, pair_in, total_most}
use Rattle.meter_template.proofs.Laws.TemplateLaws.{fit, size_within, right_fits}
use Rattle.meter_record.specs.MeterRecords.{mode_number, method_of, since_of, meter_bytes, word_at, meter_in, wrong_mode, wrong_total, wrong_pair, unreached}
use Rattle.meter_record.specs.MeterRecords.{recalled, meter_from}

-- ---- the fields of a template fit their types

size_fits : (z : ℤ) → nat_abs z < 100 ^ 8 → SFits w64 z
size_fits (pos n) h = record { sfits = omega arith }
size_fits (negsuc n) h = record { sfits = omega arith }

binary_fits : (w : ℕ) (z : ℤ) → w ≤ 8 → fits_binary w z ≡ true → SFits w64 z
binary_fits w (pos n) h f =
    let most : 256 ^ w ≤ 256 ^ 8 = pow-le-pow_right (lit< tt) h in
    record { sfits = omega (arith, ltb-true (2 * n) (256 ^ w) f) }
binary_fits w (negsuc n) h f =
    let most : 256 ^ w ≤ 256 ^ 8 = pow-le-pow_right (lit< tt) h in
    record { sfits = omega (arith, leb-true (2 * suc n) (256 ^ w) f) }

value_small : (e : Entry) → wrong_entry e ≡ false → ValueFits e.value
value_small e right = go e.value (neither (not (paired e.structure e.unit)) (wrong_value e.structure e.unit e.value) right).1
  where
    go : (x : Value) → wrong_value e.structure e.unit x ≡ false → ValueFits x
    go (Time m) w = tt
    go (Number d) w =
        let short : nat_abs d.count < 100 ^ width_of e.structure = size_within (width_of e.structure) d.count (right_fits e d w) in
        let most : 100 ^ width_of e.structure ≤ 100 ^ 8 = pow-le-pow_right (lit< tt) (width_most e.structure) in
        size_fits d.count (lt_of_lt_of_le short most)
    go (Binary b) w =
        let st : ℕ = e.structure in
        let fits = fits_binary (width_of st) b.count in
        let k = none (is_time e.unit) (not (is_binary st) ∷ not fits ∷ (below_zero b.count && not (may_fall e.unit)) ∷ []) w in
        binary_fits (width_of st) b.count (width_most st) (not-false fits k.1.1.0)

blank_small : (e : Entry) → used_entry e ≡ false → ValueFits e.value
blank_small e blank = go e.value (neither (ltb 0 e.structure || ltb 0 e.unit) (used_value e.value) blank).1
  where
    zero_fits : (z : ℤ) → not (is_zero z) ≡ false → SFits w64 z
    zero_fits (pos n) u = let none : n ≡ 0 = eqb-true n 0 (not-false (eqb n 0) u) in record { sfits = omega arith }
    zero_fits (negsuc n) u = absurd (true≢false u)

    go : (x : Value) → used_value x ≡ false → ValueFits x
    go (Time m) u = tt
    go (Number d) u = zero_fits d.count u
    go (Binary b) u = absurd (true≢false u)

entries_small : (n : ℕ) (es : List Entry) → any wrong_entry (take n es) ≡ false → any used_entry (drop n es) ≡ false → ValuesFit es
unfolding any ValuesFit
entries_small n [] w u = tt
entries_small zero (e ∷ es) w u =
    let both = neither (used_entry e) (any used_entry es) u in
    (blank_small e both.0, entries_small zero es refl both.1)
entries_small (suc n) (e ∷ es) w u =
    let both = neither (wrong_entry e) (any wrong_entry (take n es)) w in
    (value_small e both.0, entries_small n es both.1 u)

template_fits : (t : Telegram) → unfit_template t ≡ false → length t.entries ≡ 7 → TelegramFits t
template_fits t e places =
    let f = fit t e in
    let h = t.header in
    let k = none (not (ltb h.number 100000000)) (not (maker_named h.maker) ∷ not (heat_meter h.meter_type) ∷ []) f.header in
    let m = every (ltb h.maker 32768) (letter (h.maker / 1024) ∷ letter (h.maker / 32 % 32) ∷ letter (h.maker % 32) ∷ [])
    (not-false (maker_named h.maker) k.1.0) in
    record {
      number = lt_of_lt_of_le (ltb-true h.number 100000000 (not-false _ k.0)) (lit≤ tt);
      maker = lt_of_lt_of_le (ltb-true h.maker 32768 m.0) (lit≤ tt);
      count = lt_of_le_of_lt (ltb-false 7 t.count f.count) (lit< tt);
      places = places;
      values = entries_small t.count t.entries f.right f.past;
    }

-- ---- which meters have a record

-- the parts of `unreached`
pub record Reached (last : ℕ) (c : Core) : Type 0 where
  pub template : unfit_template c.template ≡ false
  pub mode : wrong_mode last c.mode ≡ false
  pub used : wrong_pair (pair_in c.template.entries) c.used ≡ false
  pub verified : wrong_pair zeros c.verified ≡ false

pub reached : (m : Meter) → unreached m ≡ false → Reached m.last.0 m.core
reached m e =
    let k = none (unfit_template m.core.template) (wrong_mode m.last.0 m.core.mode ∷ wrong_pair (pair_in m.core.template.entries)
    m.core.used ∷ wrong_pair zeros m.core.verified ∷ []) e in
    record { template = k.0; mode = k.1.0; used = k.1.1.0; verified = k.1.1.1.0 }

pub not_unreached : (m : Meter) → Reached m.last.0 m.core → unreached m ≡ false
not_unreached m r = rw (r.template, r.mode, r.used, r.verified)

-- A meter that some history leads to, in fields of their types.
pub record Good (m : Meter) : Type 0 where
  pub time : m.last.0 < 256 ^ 8
  pub places : length m.core.template.entries ≡ 7
  pub so : unreached m ≡ false

pub total_within : (least n : ℕ) → wrong_total least n ≡ false → (least ≤ n) × (n ≤ total_most)
total_within least n e =
    let k = neither (ltb n least) (ltb total_most n) e in
    (ltb-false n least k.0, ltb-false total_most n k.1)

pair_small : (least p : Pair) → wrong_pair least p ≡ false → (p.volume < 256 ^ 8) × (p.energy < 256 ^ 8)
pair_small least p e =
    let k = neither (wrong_total least.volume p.volume) (wrong_total least.energy p.energy) e in (
      lt_of_le_of_lt (total_within least.volume p.volume k.0).1 (lit< tt),
      lt_of_le_of_lt (total_within least.energy p.energy k.1).1
          (lit< tt),
    )

since_small : (last : ℕ) (mode : Mode) → last < 256 ^ 8 → wrong_mode last mode ≡ false → since_of mode < 256 ^ 8
since_small last Use h e = lit< tt
since_small last (Verifying s since) h e =
    let k = none (not (is_method s)) (earlier since.0 last ∷ due since.0 last ∷ []) e in
    lt_of_le_of_lt (ltb-false last since.0 k.1.0) h

-- ---- what is written is read: where each field stands

mode_read : (mode : Mode) → cond (eqb (mode_number mode) 1) (Verifying (method_of mode) (record { 0 = since_of mode })) Use ≡ mode
mode_read Use = refl
mode_read (Verifying s since) = refl

module _ (m : Meter) where
  behind : drop 56 (meter_bytes m) ≡ telegram_bytes m.core.template
  unfolding meter_bytes bytes_of
  behind = refl

  taken : Good m → meter_in (meter_bytes m) m.core.template ≡ m
  unfolding meter_in meter_bytes bytes_of
  taken g =
      let r = reached m g.so in
      let used = pair_small (pair_in m.core.template.entries) m.core.used r.used in
      let verified = pair_small zeros m.core.verified r.verified in
      rw (
        number_bytes 8 m.last.0 g.time,
        number_bytes 8 (since_of m.core.mode) (since_small m.last.0 m.core.mode g.time r.mode),
        number_bytes 8 m.core.used.volume used.0,
        number_bytes 8 m.core.used.energy used.1,
        number_bytes 8 m.core.verified.volume verified.0,
        number_bytes 8 m.core.verified.energy verified.1,
        mode_read m.core.mode,
      )

  -- The record of a meter that some history leads to reads as that meter,
  pub meter_read : Good m → meter_from (meter_bytes m) ≡ reads m
  meter_read g =
      let template : telegram_from (drop 56 (meter_bytes m)) ≡ reads m.core.template =
      ap telegram_from behind ∙ telegram_read m.core.template (template_fits m.core.template (reached m g.so).template g.places) in
      ap (λ (a : Answer Telegram). follow a (λ (t : Telegram). recalled (meter_bytes m) (meter_in (meter_bytes m) t))) template
      ∙ ap (recalled (meter_bytes m)) (taken g) ∙ rw (same_itself (meter_bytes m), g.so)

-- and what is read is such a meter, and is written as the same bytes.
pub record ReadFrom (b : List ℕ) (m : Meter) : Type 0 where
  pub bytes : meter_bytes m ≡ b
  pub good : Good m

-- a number that stands in a record as eight bytes has no more than eight
time_small : (m : Meter) → word_at (meter_bytes m) 0 ≡ m.last.0 → m.last.0 < 256 ^ 8
unfolding meter_bytes bytes_of
time_small m e = subst (λ (n : ℕ). n < 256 ^ 8) e (number_below 8 (bytes_of 8 m.last.0) (bytes_below 8 m.last.0))

seven_in : (b : List ℕ) → length (telegram_in b).entries ≡ 7
unfolding telegram_in entries_in
seven_in b = refl

pub seven_places : (b : List ℕ) (t : Telegram) → telegram_from b ≡ reads t → length t.entries ≡ 7
seven_places b t e =
    let p = passed no_record (not (same b (telegram_bytes (telegram_in b)))) (reads (telegram_in b)) t e in
    subst (λ (x : Telegram). length x.entries ≡ 7) (reads_same p.1) (seven_in b)

pub meter_written : (b : List ℕ) (m : Meter) → meter_from b ≡ reads m → ReadFrom b m
unfolding meter_in
meter_written b m e = go (telegram_from (drop 56 b)) refl e
  where
    go : (a : Answer Telegram) → telegram_from (drop 56 b) ≡ a → follow a (λ t. recalled b (meter_in b t)) ≡ reads m → ReadFrom b m
    go (refusal n) r f = let z : ◌≡◌ {A = ℕ} 0 1 = cc in absurd (omega arith)
    go (reads t) r f =
        let x = meter_in b t in
        let p = passed no_record (not (same b (meter_bytes x))) (refuse no_record (unreached x) (reads x)) m f in
        let q = passed no_record (unreached x) (reads x) m p.1 in
        let is : x ≡ m = reads_same q.1 in
        let bytes : b ≡ meter_bytes x = same_equal b (meter_bytes x) (not-false (same b (meter_bytes x)) p.0) in
        subst (ReadFrom b) is (record {
          bytes = sym bytes;
          good = record {
            time = time_small x (ap (λ (l : List ℕ). word_at l 0) (sym bytes));
            places =
                seven_places (drop 56 b) t r;
            so = q.0;
          };
        })
