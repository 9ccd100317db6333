-- `host_bundle::contents::skarrowith_contents_of` meets its contract: the two cases of what was made.
use Rattle.bundle_columns.specs.Shown.{columns_into}
use Rattle.host_bundle.proofs.Laws.Contents.{turns_done, turns_refused}
use Rattle.host_bundle.proofs.contents.skarrowith_contents_of.Goals as goal

pub returns-in-Ok : goal.returns-in-Ok
returns-in-Ok c =
    let a = c.args in
    turns_done (columns_into a.bundle.now a.contents.now) c.columns_of.ensures c.in-Ok.is

pub returns-in-Err : goal.returns-in-Err
returns-in-Err c =
    let a = c.args in
    rw c.told.ensures (turns_refused (columns_into a.bundle.now a.contents.now) c.columns_of.ensures c.in-Err.is)
