use Rattle.std.proofs.Common.{ap, ◌∙◌}
use Rattle.script.specs.Numbers.{number_not_plain, number_word}
use Rattle.script.specs.Reads.{begins_plain}
use Rattle.script.proofs.form.U32Word.read.Goals as goal

pub returns-then-not-is_plain : goal.returns-then-not-is_plain
returns-then-not-is_plain c x small =
    number_not_plain x c.args.text.now small (c.if-not-is_plain.ensures ∙ ap begins_plain c.as_bytes.ensures.value)

pub returns : goal.returns
returns c =
    number_word c.args.text.now c.parse.result c.ok.result c.parse.ensures.value.0 c.ok.ensures.value (c.if-not-is_plain.ensures ∙ ap begins_plain c.as_bytes.ensures.value)
