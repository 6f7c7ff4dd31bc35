use Rattle.std.proofs.Common.{rules}
use Rattle.text_streams.proofs.WriteLemmas.{first_part}
use Rattle.text_streams.proofs.output.Output.flush.Goals as goal

pub returns-in_err-write_all-clause-err : goal.returns-in_err-write_all-clause-err
returns-in_err-write_all-clause-err g c =
    let part = first_part (g.W.Write.contents c.args.self.now.writer.now)
    (g.W.Write.contents c.write_all.new.writer) c.args.self.now.text.bytes.items _
    c.as_bytes.ensures.value
    c.in_err-write_all.ensures.err in
    search (rules, part)
