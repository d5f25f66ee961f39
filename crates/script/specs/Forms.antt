-- Numbers that may be left out.
use Rattle.std.specs.Prelude.{ℕ, List, [], Some, None, vec_items, Option}
use Rattle.script.specs.declared.form.Numbers.{Numbers}

-- the numbers, none where they are left out
abbrev pub listed : Option Numbers → List ℕ
listed None = []
listed (Some ns) = vec_items ns.0
