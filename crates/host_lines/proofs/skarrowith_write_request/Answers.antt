-- `host_lines::skarrowith_write_request` meets its contract.
use Rattle.host_lines.proofs.Laws.CallLaws.{request_line}
use Rattle.host_lines.proofs.skarrowith_write_request.Goals as goal

pub returns : goal.returns
returns c =
    let args = c.args in request_line args.kind args.address args.method
    args.out.now c.kind_in-kind.ensures c.bare-request.ensures
    c.write.ensures
