use Rattle.std.proofs.Common.{rules}
use Rattle.desk.proofs.RowPlaces.{added_there, added_new, new_room}
use Rattle.desk.proofs.matching.rows.Rows.add.Goals as goal

pub returns-in-Some-clause-rows : goal.returns-in-Some-clause-rows
returns-in-Some-clause-rows c = added_there c.args.row c.args.self.now.all.now c.args.self.now.made c.args.self.now.inside _ c.in-Some.ensures

pub bounds-all-self : goal.bounds-all-self
bounds-all-self c = new_room c.args.row c.args.self.now.all.now c.args.self.now.made c.args.self.now.inside c.in-None.ensures c.requires.room

pub invariant_of-self-in-None : goal.invariant_of-self-in-None
invariant_of-self-in-None c =
    let room = new_room c.args.row c.args.self.now.all.now c.args.self.now.made c.args.self.now.inside c.in-None.ensures c.requires.room in search rules

pub returns-in-None-clause-rows : goal.returns-in-None-clause-rows
returns-in-None-clause-rows c = added_new c.args.row c.args.self.now.all.now c.args.self.now.made c.args.self.now.inside c.in-None.ensures c.requires.room
