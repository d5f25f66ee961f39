use Rattle.std.proofs.Common.{vec_items, lit<}
use Rattle.std.proofs.lemmas.Iterator.Consumers.{YieldsList-at, YieldsList-turn}
use Rattle.std.proofs.lemmas.Iterator.Splits.{YieldsList-from_str_split}
use Rattle.script.proofs.Forms.{no_form}
use Rattle.script.proofs.Listed.{no_numbers}
use Rattle.script.proofs.form.NumbersWritten.read.Goals as goal

pub returns-in_err-number : goal.returns-in_err-number
returns-in_err-number c =
    let words = YieldsList-at c.into_iter-word-iterator.ensures.into_iter_gives (YieldsList-from_str_split 32 c.args.text.now (lit< tt) c.split-word-items.ensures.text c.split-word-items.ensures.has_more c.split-word-items.ensures.pattern) in
    let turn = YieldsList-turn words c.loop-word.yielded _ c.loop-word.yielded_by _ _ c.in-Some.word c.in-Some.is c.next.ensures.steps in
    no_form _ _ _ _ c.read.result c.ok_or.result c.in_err-number.field-0.0 c.from_residual.result c.ok_or.ensures.value c.in_err-number.was c.from_residual.ensures.1 (λ none x fits is. no_numbers c.args.text.now c.in-Some.word.now _ turn (rw none at c.read.ensures) (vec_items x.0) fits.0 fits.1 is)
