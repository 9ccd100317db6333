-- `host_cjt::skarrowith_cjt_write_line` meets its contract.
use Rattle.host_cjt.proofs.Laws.CjtCallLaws.{no_record, record_line}
use Rattle.host_cjt.proofs.skarrowith_cjt_write_line.Goals as goal

pub returns-in-Refused : goal.returns-in-Refused
returns-in-Refused c =
    no_record c.args.telegram.now c.args.out.now c.cjt_from.ensures c.in-Refused.is

pub returns-in-Read : goal.returns-in-Read
returns-in-Read c =
    record_line c.args.telegram.now c.args.out.now
    c.cjt_from.ensures c.in-Read.is
    c.write.ensures
