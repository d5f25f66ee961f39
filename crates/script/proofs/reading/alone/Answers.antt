use Rattle.std.proofs.lemmas.Result.{err_from_is_err_and}
use Rattle.script.proofs.Lines.{no_verb_alone}
use Rattle.script.proofs.reading.alone.Goals as goal

pub returns-in_err-verb : goal.returns-in_err-verb
returns-in_err-verb c =
    let p = err_from_is_err_and c.from_residual.result c.from_residual.ensures.1 in
    let none = c.in_err-verb.ensures.value in
    rw (p.1, p.2, none.0) (no_verb_alone c.args.line.now c.requires none.1)
