use Rattle.std.proofs.Common.{true}
use Rattle.std.proofs.lemmas.Result.{err_from_is_err_and}
use Rattle.script.specs.declared.command.Verb.TheVariants.{Share}
use Rattle.script.proofs.Lines.{unread_line}
use Rattle.script.proofs.reading.share.Goals as goal

pub returns-in_err-rule : goal.returns-in_err-rule
returns-in_err-rule c =
    let p = err_from_is_err_and c.from_residual.result c.from_residual.ensures.1 in
    rw (p.1, p.2) (unread_line true Share c.args.text.now _ c.in_err-rule.ensures)
