use Rattle.script.proofs.Forms.{all_one_word, word_lacks}
use Rattle.script.proofs.reading.parse.Goals as goal

pub several-requires : goal.several-requires
several-requires c =
    (word_lacks _ c.split_once.result (c.in-Some.word, c.in-Some.text) c.split_once.ensures.cases c.in-Some.is).1

pub alone-requires : goal.alone-requires
alone-requires c = all_one_word _ c.split_once.result c.split_once.ensures.cases c.in-None.is
