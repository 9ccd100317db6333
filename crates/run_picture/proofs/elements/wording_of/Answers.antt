-- `run_picture::elements::wording_of` meets its contract, case by case.
use Rattle.run_picture.proofs.elements.wording_of.Goals as goal

pub returns-in-Wake : goal.returns-in-Wake
returns-in-Wake c = rw c.in-Wake.is

pub returns-in-First : goal.returns-in-First
returns-in-First c = rw c.in-First.is

pub returns-in-Resend : goal.returns-in-Resend
returns-in-Resend c = rw c.in-Resend.is

pub returns-in-Refused : goal.returns-in-Refused
returns-in-Refused c = rw c.in-Refused.is

pub returns-in-Counts : goal.returns-in-Counts
returns-in-Counts c = rw c.in-Counts.is

pub returns-in-LeftOver : goal.returns-in-LeftOver
returns-in-LeftOver c = rw c.in-LeftOver.is

pub returns-in-Late : goal.returns-in-Late
returns-in-Late c = rw c.in-Late.is

pub returns-in-Second : goal.returns-in-Second
returns-in-Second c = rw c.in-Second.is

pub returns-in-Damaged : goal.returns-in-Damaged
returns-in-Damaged c = rw c.in-Damaged.is

pub returns-in-WrongKind : goal.returns-in-WrongKind
returns-in-WrongKind c = rw c.in-WrongKind.is

pub returns-in-Unasked : goal.returns-in-Unasked
returns-in-Unasked c = rw c.in-Unasked.is
