use Rattle.std.proofs.lemmas.Result.{err_from_is_err_and}
use Rattle.script.proofs.Forms.{no_form, more_single, more_first, more_rest}
use Rattle.script.proofs.form.ThenMoreWritten.read.Goals as goal

pub returns-in_err-first : goal.returns-in_err-first
returns-in_err-first g c =
    no_form _ _ _ _ c.read.result c.ok_or.result c.in_err-first.field-0.0 c.from_residual.result c.ok_or.ensures.value c.in_err-first.was c.from_residual.ensures.1 (λ none. more_single g.A.Word.fits g.A.Word.form g.B.Written.fits g.B.Written.form g.met.A.Word.plain c.args.text.now c.split_once.result c.split_once.ensures.cases c.in_default.is (rw none at c.read.ensures))

pub returns-in_err-first-2 : goal.returns-in_err-first-2
returns-in_err-first-2 g c =
    no_form _ _ _ _ c.read-2.result c.ok_or-2.result c.in_err-first-2.field-0.0 c.from_residual-in_err-first-2.result c.ok_or-2.ensures.value c.in_err-first-2.was c.from_residual-in_err-first-2.ensures.1 (λ none. more_first g.A.Word.fits g.A.Word.form g.B.Written.fits g.B.Written.form g.met.A.Word.plain c.args.text.now c.split_once.result c.in-Some.word c.in-Some.after c.split_once.ensures.cases c.in-Some.is (rw none at c.read-2.ensures))

pub returns-in_err-more : goal.returns-in_err-more
returns-in_err-more g c =
    let p = err_from_is_err_and c.from_residual-in_err-more.result c.from_residual-in_err-more.ensures.1 in
    rw (p.1, p.2) (more_rest g.A.Word.fits g.A.Word.form g.B.Written.fits g.B.Written.form g.met.A.Word.plain g.B.Written.allocates c.args.text.now c.split_once.result c.in-Some.word c.in-Some.after _ c.split_once.ensures.cases c.in-Some.is c.in_err-more.ensures)
