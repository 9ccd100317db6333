-- Which sent request is a resend, by the rows before it, in the words of include/skarrowith.h.
use Rattle.std.specs.Prelude.{ℕ, suc, ◌+◌, ◌≤◌, ◌<◌, true, false, List, ◌∷◌, ◌++◌, ◌⊎◌, ◌≡◌}
use Rattle.base_rules.specs.Lists.{any}
use Rattle.mbus_rules.specs.declared.Request.{Request}
use Rattle.mbus_rules.specs.declared.Outline.TheVariants.{Asks}
use Rattle.exchange_replies.specs.Fits.{fits}
use Rattle.bundle_check.specs.Records.{Recorded}
use Rattle.run_counting.specs.Counting.{is_sent, row_outline, send_end, begins_from, looked_at}
use Rattle.run_verdicts.specs.declared.Verdict.TheVariants.{First, Resend}
use Rattle.run_verdicts.specs.Words.{verdict_behind}
use Rattle.demands.specs.Judged.{Sent}

-- The last row sent at the position of a row was this request, and none was sent there since.
pub record LastSent (before : List Recorded) (k : Recorded) (front : List Recorded) (send : Recorded) (later : List Recorded) (request : Request) : Type 0 where
  pub rows : before ≡ front ++ (send ∷ later)
  pub own : send.position ≡ k.position
  pub sent : Sent send
  pub asks : row_outline send ≡ Asks request
  pub none : any is_sent (looked_at k.position later) ≡ false

-- Which send of its exchange a row is: a first send is number 1, and a resend one more than the last row sent.
pub data Nth : ℕ → List Recorded → Recorded → Type 0 where
  first : {before : List Recorded} {k : Recorded} → verdict_behind before k ≡ First → Nth 1 before k
  again : {n : ℕ} {before front later : List Recorded} {send k : Recorded} {request : Request} → LastSent before k front send later request
      → Nth n front send → verdict_behind before k ≡ Resend → Nth (suc n) before k

-- A send has failed at a time: more than 450 after its end without a line, or by the first line since that end, which was late or does not fit.
pub data HasFailed (send : Recorded) (request : Request) (since : List Recorded) (t : ℕ) : Type 0 where
  silent : any (begins_from (send_end send)) since ≡ false → send_end send + 450 < t → HasFailed send request since t
  decided : (early : List Recorded) (line : Recorded) (rest : List Recorded) → since ≡ early ++ (line ∷ rest)
      → any (begins_from (send_end send)) early ≡ false → send_end send ≤ line.time → line.time ≤ t
      → (send_end send + 450 < line.time) ⊎ (fits request (row_outline line) ≡ false) → HasFailed send request since t

-- A resend is the request of the send before it, if that was the first or second of its exchange and has failed.
abbrev pub ResendOfTheLast : Type 0
ResendOfTheLast =
    (before front later : List Recorded) (send k : Recorded) (request : Request) (n : ℕ) → LastSent before k front send later request → Nth n front send
    → n < 3 → HasFailed send request (looked_at k.position later) k.time → Sent k → row_outline k ≡ Asks request → verdict_behind before k ≡ Resend

-- Behind the third send every request begins an exchange, and so does every other request.
abbrev pub FirstBehindTheThird : Type 0
FirstBehindTheThird =
    (before front later : List Recorded) (send k : Recorded) (request other : Request) (n : ℕ) → LastSent before k front send later request
    → Nth n front send → Sent k → row_outline k ≡ Asks other → (3 ≤ n) ⊎ (request ≡ other → ⊥) → verdict_behind before k ≡ First

-- So does one that is sent while the last send still waits, up to 450 after its end without a line,
abbrev pub FirstWhileItWaits : Type 0
FirstWhileItWaits =
    (before front later : List Recorded) (send k : Recorded) (request other : Request) (n : ℕ) → LastSent before k front send later request
    → Nth n front send → Sent k → row_outline k ≡ Asks other → any (begins_from (send_end send)) (looked_at k.position later) ≡ false
    → k.time ≤ send_end send + 450 → verdict_behind before k ≡ First

-- and one behind a send whose first line since its end was in time and fits.
abbrev pub FirstBehindAnAnswer : Type 0
FirstBehindAnAnswer =
    (before front later early rest : List Recorded) (send k line : Recorded) (request other : Request) (n : ℕ)
    → LastSent before k front send later request → Nth n front send → Sent k → row_outline k ≡ Asks other
    → looked_at k.position later ≡ early ++ (line ∷ rest) → any (begins_from (send_end send)) early ≡ false → send_end send ≤ line.time
    → line.time ≤ send_end send + 450 → fits request (row_outline line) ≡ true → verdict_behind before k ≡ First
