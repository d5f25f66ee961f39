use Rattle.std.proofs.lemmas.Result.{err_from_is_err_and}
use Rattle.script.proofs.Forms.{no_form, then_none, then_first, then_rest}
use Rattle.script.proofs.form.ThenWritten.read.Goals as goal

pub returns-in_err-word : goal.returns-in_err-word
returns-in_err-word g c =
    no_form _ _ _ _ c.split_once.result c.ok_or.result c.in_err-word.field-0.0 c.from_residual.result c.ok_or.ensures.value c.in_err-word.was c.from_residual.ensures.1 (then_none g.A.Word.fits g.A.Word.form g.B.Written.fits g.B.Written.form g.met.A.Word.plain c.args.text.now c.split_once.result c.split_once.ensures.cases)

pub returns-in_err-first : goal.returns-in_err-first
returns-in_err-first g c =
    no_form _ _ _ _ c.read.result c.ok_or-2.result c.in_err-first.field-0.0 c.from_residual-in_err-first.result c.ok_or-2.ensures.value c.in_err-first.was c.from_residual-in_err-first.ensures.1 (λ none. then_first g.A.Word.fits g.A.Word.form g.B.Written.fits g.B.Written.form g.met.A.Word.plain c.args.text.now c.split_once.result c.in_ok-word.word c.in_ok-word.after c.split_once.ensures.cases c.in_ok-word.ensures.ok_part (rw none at c.read.ensures))

pub returns-in_err-rest : goal.returns-in_err-rest
returns-in_err-rest g c =
    let p = err_from_is_err_and c.from_residual-in_err-rest.result c.from_residual-in_err-rest.ensures.1 in
    rw (p.1, p.2) (then_rest g.A.Word.fits g.A.Word.form g.B.Written.fits g.B.Written.form g.met.A.Word.plain g.B.Written.allocates c.args.text.now c.split_once.result c.in_ok-word.word c.in_ok-word.after _ c.split_once.ensures.cases c.in_ok-word.ensures.ok_part c.in_err-rest.ensures)
