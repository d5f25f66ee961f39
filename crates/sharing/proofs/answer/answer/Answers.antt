use Rattle.sharing.proofs.answer.answer.Goals as goal

pub returns-clause-after : goal.returns-clause-after
returns-clause-after g c = cc (c.requires.1.1 _ _ _ c.write.ensures, c.in-Some.ensures.same.0, c.in-Some.ensures.same.1)
