-- A loop that stores bytes into the first places.
use Rattle.std.proofs.Common.{◌≡◌, ℕ, ◌+◌, ◌<◌, ◌≤◌, List, length, take, set, sym, ap, ◌∙◌, subst, zero-add, lt-ltb}
use Rattle.base_rules.specs.Lists.{at}
use Rattle.base_lent.proofs.Laws.Copying.{Copied, copied_none, copied_next, copied_fits, laid_front}
use Rattle.base_lent.specs.Copying.{copied, laid}

pub stored_none : {d s : List ℕ} → length s ≤ length d → Copied d 0 s 0 d
stored_none {d} {s} h = copied_none (rw (zero-add (length s)) h)

pub stored_next : {d s : List ℕ} {i : ℕ} {now : List ℕ} → Copied d 0 s i now → i < length s → {x : ℕ} → x ≡ at s i → Copied d 0 s (i + 1) (set now i x)
stored_next {d} {s} {i} {now} g h {x} e = subst (λ (k : ℕ). Copied d 0 s (i + 1) (set now k x)) (zero-add i) (copied_next g 0 h e)

-- too few places
pub stored_few : (d s : List ℕ) → length d < length s → d ≡ copied d 0 s
stored_few d s h = rw (zero-add (length s), lt-ltb (length d) (length s) h)

-- what was stored in enough places stands in the first
pub stored_first : (d s : List ℕ) {n : ℕ} → length s ≡ n → length s ≤ length d → take n (copied d 0 s) ≡ s
stored_first d s {n} e h =
    let room : 0 + length s ≤ length d = rw (zero-add (length s)) h in
    ap (take n) (copied_fits d 0 s room) ∙ ap (λ (k : ℕ). take k (laid d 0 s)) (sym (zero-add (length s) ∙ e)) ∙ laid_front d s 0 room
