use Rattle.std.proofs.Common.{sym, ◌∙◌}
use Rattle.std.proofs.lemmas.Result.{err_from_is_err_and}
use Rattle.model.specs.States.{day_of}
use Rattle.desk.proofs.Tables.{place_terms, place_room}
use Rattle.desk.proofs.desk.Desk.judge_place.Goals as goal

pub returns-in_err-check_terms : goal.returns-in_err-check_terms
returns-in_err-check_terms c =
    let p = err_from_is_err_and c.from_residual.result c.from_residual.ensures.1 in
    rw (p.1, p.2) (place_terms (day_of c.args.self.now.state) c.args.register_length c.args.participant c.args.terms.now _ (c.if-register_length-rows.false ∙ c.rows.ensures) (sym c.in_err-check_terms.ensures))

pub returns : goal.returns
returns c =
    c.judge_room.ensures
    ∙ place_room (day_of c.args.self.now.state) c.args.register_length c.args.participant c.args.terms.now (c.if-register_length-rows.false ∙ c.rows.ensures) (sym c.in_ok-check_terms.ensures)
