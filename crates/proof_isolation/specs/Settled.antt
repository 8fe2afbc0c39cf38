-- What SettledLaws.antt speaks of. It proves: what no operation changes but an assignment of the control request and
-- EP0's start: that request, the stage, EP0's maximum
use Rattle.std.specs.Prelude.{Bool}
use Rattle.script.specs.Cells.{same_sort, Cell, control-cell}

-- ---- assignments

abbrev pub is_control : Cell → Bool
is_control c = same_sort c control-cell
