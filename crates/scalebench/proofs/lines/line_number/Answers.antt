-- `scalebench::lines::line_number` meets its contract: the number of each case.
use native.Mathlib.Omega.{arith}
use mathlib.Core.Path.{◌∙◌, ap, subst, sym}
use Rattle.std.specs.Prelude.{Err, Ok}
use Rattle.scalebench.specs.Typed.{Small, line_number}
use Rattle.scalebench.proofs.lines.line_number.Goals as goal

pub kind_number-requires : goal.kind_number-requires
kind_number-requires c = record { kind_bound = omega arith; number_bound = subst Small (c.in-Ok.is ∙ ap Ok c.in-Add.is) c.requires }

pub kind_number-requires-in-Drop : goal.kind_number-requires-in-Drop
kind_number-requires-in-Drop c = record { kind_bound = omega arith; number_bound = subst Small (c.in-Ok.is ∙ ap Ok c.in-Drop.is) c.requires }

pub kind_number-requires-in-Ask : goal.kind_number-requires-in-Ask
kind_number-requires-in-Ask c = record { kind_bound = omega arith; number_bound = subst Small (c.in-Ok.is ∙ ap Ok c.in-Ask.is) c.requires }

pub kind_number-requires-in-Form : goal.kind_number-requires-in-Form
kind_number-requires-in-Form c = record { kind_bound = omega arith; number_bound = subst Small (c.in-Err.is ∙ ap Err c.in-Form.is) c.requires }

pub returns-in-Add : goal.returns-in-Add
returns-in-Add c = c.kind_number.ensures ∙ ap line_number (sym (c.in-Ok.is ∙ ap Ok c.in-Add.is))

pub returns-in-Drop : goal.returns-in-Drop
returns-in-Drop c = c.kind_number-in-Drop.ensures ∙ ap line_number (sym (c.in-Ok.is ∙ ap Ok c.in-Drop.is))

pub returns-in-Ask : goal.returns-in-Ask
returns-in-Ask c = c.kind_number-in-Ask.ensures ∙ ap line_number (sym (c.in-Ok.is ∙ ap Ok c.in-Ask.is))

pub returns-in-Form : goal.returns-in-Form
returns-in-Form c = c.kind_number-in-Form.ensures ∙ ap line_number (sym (c.in-Err.is ∙ ap Err c.in-Form.is))
