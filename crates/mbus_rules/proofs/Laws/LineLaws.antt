-- The bytes of a whole line both ways, by its kind.
use Prim.Native.Nat.{ℕ, ◌+◌, ◌-◌, ◌%◌, ◌<◌, ◌≤◌}
use mathlib.Core.Bool.{Bool, true, false, cond, not, ◌||◌, false≢true, or-false}
use mathlib.Core.List.{List, [], ◌∷◌, ◌++◌}
use mathlib.Core.Path.{◌≡◌, refl, sym, ap, ap₂, subst, ◌∙◌}
use native.Mathlib.Omega.{arith}
use borrow.Author.Tests.{ltb-false, leb-true, le-leb, eqb-true, ne_eqb, not-false}
use lib.Dec.{ltb, leb, eqb, lit<, lit≤}
use lib.ListN.{length, take, drop, replicate, length-replicate, length-append, length-take, length-drop, take-append-drop}
use lib.Seq.{drop_at}
use Rattle.mbus_rules.specs.declared.Kind.{Kind}
use Rattle.mbus_rules.specs.declared.Kind.TheVariants.{Ack, Read, Enter, Leave, Data}
use Rattle.mbus_rules.specs.declared.Entry.{Entry}
use Rattle.mbus_rules.specs.declared.Header.{Header}
use Rattle.mbus_rules.specs.declared.Telegram.{Telegram}
use Rattle.base_rules.specs.Lists.{at, any, total}
use Rattle.base_rules.specs.Answers.{Answer, reads, refuse, within}
use Rattle.mbus_rules.specs.Headers.{header_of, wrong_header}
use Rattle.mbus_rules.specs.Entries.{missing, read_entries}
use Rattle.mbus_rules.specs.Telegrams.{blank_entry, blank_header, read_of, enter_of, leave_of, data_of, bare}
use Rattle.mbus_rules.specs.Lines.{is_ack, is_short, wrong_start, wrong_count, wrong_lengths, wrong_end, wrong_sum, field, is_method, is_command, is_data}
use Rattle.mbus_rules.specs.Lines.{read_short, command_of, read_data, read_long, read_body, read_frame}
use Rattle.mbus_rules.specs.Writing.{bytes_of_header, bytes_of_entries, short_frame, long_frame, entries_of, bytes_of_kind, used_body, used_entry, longest}
use Rattle.base_characters.specs.Closing.{closed}
use Rattle.mbus_rules.specs.Writing.{unwritten_header, wrong_entry, repeats, wrong_data, wrong_for, unwritable}
use Rattle.base_rules.proofs.Laws.TestLaws.{none, every, all_passed, within_reads}
use Rattle.base_rules.proofs.Laws.Tests.{not_different, by_test, passed}
use Rattle.base_rules.proofs.Laws.AnswerLaws.{reads_same}
use Rattle.base_rules.specs.Bytes.{Bytes}
use Rattle.base_rules.proofs.Laws.ByteLaws.{byte_at, bytes_append, bytes_take, bytes_drop, spell, spell_whole}
use Rattle.mbus_rules.proofs.Laws.HeaderLaws.{HeaderRead, header_read, header_fits, header_length, header_written, header_bytes}
use Rattle.mbus_rules.specs.HeaderSizes.{Fits}
use Rattle.mbus_rules.proofs.Laws.Seven.{none_yet}
use Rattle.mbus_rules.proofs.Laws.EntryLaws.{EntriesRead, entries_read, entries_written, entries_bytes_lem}
use Rattle.mbus_rules.proofs.Laws.LengthLaws.{entries_least, entries_most}
use Rattle.mbus_rules.proofs.Laws.Frames.{Framed, Short, Long, form}
use Rattle.mbus_rules.proofs.Laws.FrameLaws.{ack_read, short_read, long_read, short_written, long_written, long_field}
use Rattle.base_characters.proofs.Laws.Closing.{closed_length}
use Rattle.mbus_rules.specs.TelegramSizes.{Sized}
use Rattle.mbus_rules.proofs.Laws.TelegramLaws.{zero_of, bare_back, data_back, data_entries, data_writable}

-- ---- the characters of a line

pub record Round (b : List ℕ) (t : Telegram) : Type 0 where
  pub back : b ≡ bytes_of_kind t.kind t
  pub writable : unwritable t ≡ false
  pub sized : Sized t

blank_fits : Fits blank_header
blank_fits = record { version = lit< tt; access = lit< tt; status = lit< tt }

-- A telegram without header and entries is in size where its address is a byte.
pub bare_sized : (k : Kind) (a m : ℕ) → a < 256 → Sized (bare k a m)
bare_sized k a m h = record { address = h; header = blank_fits; places = refl }

short_round : (b f : List ℕ) (t : Telegram) → b ≡ short_frame f → Bytes f → length f ≡ 2 → read_short f ≡ reads t → Round b t
unfolding unwritable any
short_round b f t e bytes n r =
    let k = passed 9 (not (eqb (at f 0) 0x5B)) (reads (read_of (at f 1))) t r in
    let c : at f 0 ≡ 0x5B = not_different (at f 0) 0x5B k.0 in
    let form : f ≡ 0x5B ∷ at f 1 ∷ [] = spell_whole 2 f n ∙ rw c in
    subst (Round b) (reads_same k.1) (record { back = e ∙ ap short_frame form; writable = refl; sized = bare_sized Read (at f 1) 0 (byte_at f bytes 1) })

command_round : (b f : List ℕ) (t : Telegram) → b ≡ long_frame f → Bytes f → is_command f ≡ true → reads (command_of f) ≡ reads t → Round b t
unfolding unwritable any
command_round b f t e bytes q r =
    let k = every (eqb (length f) 4) (eqb (at f 0) 0x53 ∷ eqb (at f 2) 0x50 ∷ (is_method (at f 3) || eqb (at f 3) 0x00) ∷ []) q in
    let form : f ≡ 0x53 ∷ at f 1 ∷ 0x50 ∷ at f 3 ∷ [] =
    spell_whole 4 f (eqb-true (length f) 4 k.0) ∙ rw (eqb-true (at f 0) 0x53 k.1.0, eqb-true (at f 2) 0x50 k.1.1.0) in
    subst (Round b) (reads_same r)
    (by_test (eqb (at f 3) 0x00)
    (λ z.
    let leave : f ≡ 0x53 ∷ at f 1 ∷ 0x50 ∷ 0x00 ∷ [] = form ∙ rw (eqb-true (at f 3) 0x00 z) in
    rw z (record { back = e ∙ ap long_frame leave; writable = refl; sized = bare_sized Leave (at f 1) 0 (byte_at f bytes 1) }))
    (λ z.
    let m : is_method (at f 3) ≡ true = sym (or-false (is_method (at f 3))) ∙ rw z at k.1.1.1.0 in
    rw z (record { back = e ∙ ap long_frame form; writable = rw m; sized = bare_sized Enter (at f 1) (at f 3) (byte_at f bytes 1) })))

data_made : (b rest : List ℕ) (a : ℕ) (h : Header) (es : List Entry) → a < 256 → Fits h → b ≡ long_frame (0x08 ∷ a ∷ 0x72 ∷ (bytes_of_header h ++ rest))
    → unwritten_header h ≡ false → EntriesRead rest [] es → Round b (data_of a h es)
data_made b rest a h es below fits e header x =
    let same : x.more ≡ es = sym x.joins in
    let right : any wrong_entry es ≡ false = rw same at x.right in
    let once : repeats [] es ≡ false = rw same at x.once in
    let entries : rest ≡ bytes_of_entries (entries_of (data_of a h es)) = sym x.back ∙ ap bytes_of_entries (same ∙ sym (data_entries a h es)) in
    record {
      back = e ∙ ap (λ (l : List ℕ). long_frame (0x08 ∷ a ∷ 0x72 ∷ (bytes_of_header h ++ l))) entries;
      writable = data_writable a h es header right once x.whole x.few;
      sized = record {
        address = below;
        header = fits;
        places = length-append es (replicate (7 - length es) blank_entry) ∙ ap (◌+◌ (length es)) (length-replicate (7 - length es) blank_entry)
            ∙ omega (arith, x.few);
      };
    }

data_round : (b f : List ℕ) (t : Telegram) → b ≡ long_frame f → Bytes f → is_data f ≡ true → read_data (at f 1) (drop 3 f) ≡ reads t → Round b t
data_round b f t e bytes q r =
    let k = every (leb 15 (length f)) (eqb (at f 0) 0x08 ∷ eqb (at f 2) 0x72 ∷ []) q in
    let n : 15 ≤ length f = leb-true 15 (length f) k.0 in
    let d : List ℕ = drop 3 f in
    let first : take 3 f ≡ 0x08 ∷ at f 1 ∷ 0x72 ∷ [] = spell 3 0 f (omega arith) ∙ rw (eqb-true (at f 0) 0x08 k.1.0, eqb-true (at f 2) 0x72 k.1.1.0) in
    let u = passed 10 (wrong_header d) (within (data_of (at f 1) (header_of d)) (read_entries 0 (drop 12 d) [])) t r in
    let w = within_reads (data_of (at f 1) (header_of d)) (read_entries 0 (drop 12 d) []) u.1 in
    let o : HeaderRead d = header_read d (rw (length-drop 3 f) (omega arith)) (bytes_drop 3 f bytes) u.0 in
    let es : EntriesRead (drop 12 d) [] w.0 = entries_read 0 (drop 12 d) [] w.0 (bytes_drop 12 d (bytes_drop 3 f bytes)) none_yet w.1 in
    let parts : d ≡ bytes_of_header (header_of d) ++ drop 12 d = sym (take-append-drop 12 d) ∙ ap (λ (l : List ℕ). l ++ drop 12 d) (sym o.back) in
    let form : f ≡ 0x08 ∷ at f 1 ∷ 0x72 ∷ (bytes_of_header (header_of d) ++ drop 12 d) =
    sym (take-append-drop 3 f) ∙ ap₂ (λ (x y : List ℕ). x ++ y) first parts in
    subst (Round b) w.2 (data_made b (drop 12 d) (at f 1) (header_of d) w.0 (byte_at f bytes 1) (header_fits d (bytes_drop 3 f bytes))
    (e ∙ ap long_frame form) o.written es)

long_round : (b f : List ℕ) (t : Telegram) → b ≡ long_frame f → Bytes f → read_long f ≡ reads t → Round b t
long_round b f t e bytes r =
    by_test (is_command f) (λ q. command_round b f t e bytes q (rw q at r))
    (λ q.
    let u = passed 9 (not (is_data f)) (read_data (at f 1) (drop 3 f)) t (rw q at r) in
    data_round b f t e bytes (not-false (is_data f) u.0) u.1)

short_bytes : (b : List ℕ) (t : Telegram) → Bytes b → is_short b ≡ true → Short b → read_short (field b) ≡ reads t → Round b t
short_bytes b t bytes q s r =
    let z : at b 0 ≡ 0x10 = eqb-true (at b 0) 0x10 q in
    let h = short_read b z s in
    short_round b (take 2 (drop 1 b)) t h.0 (bytes_take 2 (drop 1 b) (bytes_drop 1 b bytes)) h.1 (rw z at r)

long_bytes : (b : List ℕ) (t : Telegram) → Bytes b → Long b → read_long (field b) ≡ reads t → Round b t
long_bytes b t bytes l r =
    let f : List ℕ = take (length b - 6) (drop 4 b) in
    let is : field b ≡ f = rw l.start in
    long_round b f t (long_read b l) (bytes_take (length b - 6) (drop 4 b) (bytes_drop 4 b bytes)) (ap read_long (sym is) ∙ r)

pub frame_round : (b : List ℕ) (t : Telegram) → Bytes b → read_frame read_body b ≡ reads t → Round b t
unfolding read_body unwritable any
frame_round b t bytes r =
    let k = all_passed ((4, wrong_start b) ∷ (5, wrong_count b) ∷ (6, wrong_lengths b) ∷ (7, wrong_end b) ∷ (8, wrong_sum b) ∷ []) (read_body b) r in
    let f : Framed b = record { start = k.0.0; count = k.0.1.0; lengths = k.0.1.1.0; end = k.0.1.1.1.0; sum = k.0.1.1.1.1.0 } in
    by_test (is_ack b) (λ q. subst (Round b) (reads_same (rw q at k.1)) (record {
      back = ack_read b q (rw q at (form b f));
      writable = refl;
      sized =
          bare_sized Ack 0 0 (lit< tt);
    }))
    (λ a. by_test (is_short b) (λ q. short_bytes b t bytes q (rw (a, q) at (form b f)) (rw (a, q) at k.1))
    (λ q. long_bytes b t bytes (rw (a, q) at (form b f)) (rw (a, q) at k.1)))

-- ---- from a telegram that can be written to its line and back

pub record Reads (b : List ℕ) (t : Telegram) : Type 0 where
  pub bytes : Bytes b
  pub begun : 0 < length b
  pub back : read_frame read_body b ≡ reads t

long_back : (f : List ℕ) (t : Telegram) → length f < 256 → Bytes f → read_long f ≡ reads t → Reads (long_frame f) t
unfolding read_body
long_back f t n bytes r =
    let c : Bytes (total f % 256 ∷ 0x16 ∷ []) = omega arith in
    record {
      bytes = (lit< tt, (n, (n, (lit< tt, bytes_append f (total f % 256 ∷ 0x16 ∷ []) bytes c))));
      begun = omega arith;
      back = long_written f read_body ∙ ap read_long (long_field f) ∙ r;
    }

read_back : (a : ℕ) → a < 256 → Reads (short_frame (0x5B ∷ a ∷ [])) (read_of a)
unfolding read_body total
read_back a h = record { bytes = omega arith; begun = lit< tt; back = short_written read_body 0x5B a }

leave_back : (a : ℕ) → a < 256 → Reads (long_frame (0x53 ∷ a ∷ 0x50 ∷ 0x00 ∷ [])) (leave_of a)
leave_back a h = long_back (0x53 ∷ a ∷ 0x50 ∷ 0x00 ∷ []) (leave_of a) (lit< tt) (omega arith) refl

method_below : (s : ℕ) → is_method s ≡ true → (s < 256) × (eqb s 0x00 ≡ false)
method_below s e =
    let no : 256 ≤ s → ⊥ = λ h. false≢true (rw (ne_eqb s 0x90 (omega arith), ne_eqb s 0x91 (omega arith), ne_eqb s 0x92 (omega arith)) at e) in
    let some : s ≡ 0x00 → ⊥ = λ z. false≢true (rw z at e) in
    (omega arith, ne_eqb s 0x00 some)

enter_back : (a s : ℕ) → a < 256 → is_method s ≡ true → Reads (long_frame (0x53 ∷ a ∷ 0x50 ∷ s ∷ [])) (enter_of a s)
enter_back a s h m =
    let z = method_below s m in
    long_back (0x53 ∷ a ∷ 0x50 ∷ s ∷ []) (enter_of a s) (lit< tt) (omega arith) (rw (m, z.1))

-- what 20 asks of a header and of entries
pub record Good (h : Header) (es : List Entry) : Type 0 where
  pub header : unwritten_header h ≡ false
  pub few : length es ≤ 7
  pub right : any wrong_entry es ≡ false
  pub once : repeats [] es ≡ false
  pub whole : missing es ≡ false

abbrev pub data_bytes : ℕ → Header → List Entry → List ℕ
data_bytes a h es = 0x08 ∷ a ∷ 0x72 ∷ (bytes_of_header h ++ bytes_of_entries es)

pub data_length : (a : ℕ) (h : Header) (es : List Entry) → Good h es → (35 ≤ length (data_bytes a h es)) × (length (data_bytes a h es) ≤ 83)
data_length a h es g =
    let l : length (bytes_of_header h ++ bytes_of_entries es) ≡ length (bytes_of_header h) + length (bytes_of_entries es) = length-append (bytes_of_header h)
    (bytes_of_entries es) in
    let n : length (bytes_of_header h) ≡ 12 = header_length h in
    let least : 20 ≤ length (bytes_of_entries es) = entries_least es g.right g.whole in
    let most : length (bytes_of_entries es) ≤ 68 = entries_most es g.right g.whole g.few in
    omega arith

-- the header and the entries of what is written
entries_reads : (a : ℕ) (h : Header) (es : List Entry) → Good h es → read_data a (bytes_of_header h ++ bytes_of_entries es) ≡ reads (data_of a h es)
entries_reads a h es g =
    let d : List ℕ = bytes_of_header h ++ bytes_of_entries es in
    let w = header_written h (bytes_of_entries es) g.header in
    let rest : drop 12 d ≡ bytes_of_entries es = drop_at (bytes_of_header h) (bytes_of_entries es) 12 (header_length h) in
    let entries : read_entries 0 (drop 12 d) [] ≡ reads es = rw rest (entries_written [] es g.right g.once g.whole) in
    ap (λ (t : Bool). refuse 10 t (within (data_of a (header_of d)) (read_entries 0 (drop 12 d) []))) w.right
    ∙ ap₂ (λ (x : Header) (r : Answer (List Entry)). within (data_of a x) r) w.back entries

data_reads : (a : ℕ) (h : Header) (es : List Entry) → a < 256 → Fits h → Good h es → Reads (long_frame (data_bytes a h es)) (data_of a h es)
data_reads a h es small fits g =
    let f : List ℕ = data_bytes a h es in
    let d : List ℕ = bytes_of_header h ++ bytes_of_entries es in
    let n = data_length a h es g in
    let command : is_command f ≡ false = rw (ne_eqb (length f) 4 (omega arith)) in
    let form : is_data f ≡ true = rw (le-leb 15 (length f) (omega arith)) in
    let bytes : Bytes d = bytes_append (bytes_of_header h) (bytes_of_entries es) (header_bytes h fits g.header) (entries_bytes_lem es g.right) in
    long_back f (data_of a h es) (omega arith) (lit< tt, (small, (lit< tt, bytes)))
    (ap (λ (t : Bool). cond t (reads (command_of f)) (refuse 9 (not (is_data f)) (read_data a d))) command
    ∙ ap (λ (t : Bool). refuse 9 (not t) (read_data a d)) form ∙ entries_reads a h es g)

-- ---- each kind

pub record GoodData (t : Telegram) : Type 0 where
  pub good : Good t.header (entries_of t)
  pub count : t.count ≤ 7
  pub blank : any used_entry (drop t.count t.entries) ≡ false

pub good_data : (t : Telegram) → wrong_data t ≡ false → GoodData t
good_data t e =
    let es : List Entry = entries_of t in
    let k =
    none (unwritten_header t.header)
    (ltb 7 t.count ∷ any wrong_entry es ∷ repeats [] es ∷ missing es ∷ any used_entry (drop t.count t.entries) ∷ []) e in
    let few : t.count ≤ 7 = ltb-false 7 t.count k.1.0 in
    record {
      good =
          record {
            header = k.0;
            few = rw (length-take t.count t.entries) (omega arith);
            right = k.1.1.0;
            once = k.1.1.1.0;
            whole = k.1.1.1.1.0;
          };
      count = few;
      blank = k.1.1.1.1.1.0;
    }

pub kind_reads : (t : Telegram) (k : Kind) → t.kind ≡ k → Sized t → wrong_for k t ≡ false → Reads (bytes_of_kind k t) t
unfolding read_body
kind_reads t Ack e z w =
    let k = none (ltb 0 t.address) (ltb 0 t.method ∷ used_body t ∷ []) w in
    let a : t.address ≡ 0 = zero_of t.address k.0 in
    subst (Reads (0xE5 ∷ [])) (sym (bare_back t Ack 0 e (zero_of t.method k.1.0) z.places k.1.1.0 ∙ ap (λ (n : ℕ). bare Ack n 0) a))
    (record { bytes = omega arith; begun = lit< tt; back = refl })
kind_reads t Read e z w =
    let k = none (ltb 0 t.method) (used_body t ∷ []) w in
    subst (Reads (bytes_of_kind Read t)) (sym (bare_back t Read 0 e (zero_of t.method k.0) z.places k.1.0)) (read_back t.address z.address)
kind_reads t Enter e z w =
    let k = none (not (is_method t.method)) (used_body t ∷ []) w in
    subst (Reads (bytes_of_kind Enter t)) (sym (bare_back t Enter t.method e refl z.places k.1.0))
    (enter_back t.address t.method z.address (not-false (is_method t.method) k.0))
kind_reads t Leave e z w =
    let k = none (ltb 0 t.method) (used_body t ∷ []) w in
    subst (Reads (bytes_of_kind Leave t)) (sym (bare_back t Leave 0 e (zero_of t.method k.0) z.places k.1.0)) (leave_back t.address z.address)
kind_reads t Data e z w =
    let k = none (ltb 0 t.method) (wrong_data t ∷ []) w in
    let g : GoodData t = good_data t k.1.0 in
    subst (Reads (bytes_of_kind Data t)) (sym (data_back t e (zero_of t.method k.0) z.places g.count g.blank))
    (data_reads t.address t.header (entries_of t) z.address z.header g.good)

-- ---- the length of a line

pub kind_length : (t : Telegram) (k : Kind) → wrong_for k t ≡ false → length (bytes_of_kind k t) ≤ longest
kind_length t Ack w = lit≤ tt
kind_length t Read w = lit≤ tt
kind_length t Enter w = lit≤ tt
kind_length t Leave w = lit≤ tt
kind_length t Data w =
    let f : List ℕ = data_bytes t.address t.header (entries_of t) in
    let k = none (ltb 0 t.method) (wrong_data t ∷ []) w in
    let n = data_length t.address t.header (entries_of t) (good_data t k.1.0).good in
    let c : length (closed f) ≡ length f + 2 = closed_length f in
    omega arith
