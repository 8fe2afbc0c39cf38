-- What several points of an operation have: of a list's endpoint, and of a paced advance's completion
use Rattle.state.specs.declared.Saved.{Saved}
use Rattle.driver.specs.declared.Point.{Point}
use Rattle.driver.specs.declared.Point.TheVariants as driver
use Rattle.isochronous.specs.declared.complete.Complete.TheVariants as complete
use Rattle.isochronous.specs.declared.advance.Advance.{Advance}
use Rattle.isochronous.specs.declared.advance.Advance.TheVariants as advance
use Rattle.interrupt.specs.Codec.{dir_of}
use Rattle.machine.specs.declared.points_loads.ListEndpoint.{ListEndpoint}
use Rattle.machine.specs.declared.points_loads.Completion.{Completion}

abbrev pub list_endpoint_of : Saved → ListEndpoint
list_endpoint_of c = record { dir = dir_of c.flag; kind = c.st; ep = c.ep; left = c.busy; total = c.late }

-- its maximum is written
abbrev pub max_len_at : ListEndpoint → Point
max_len_at x = driver.ListMaxLen x.dir x.kind x.ep x.left x.total

-- its address is
abbrev pub place_at : ListEndpoint → Point
place_at x = driver.ListPlace x.dir x.ep x.left x.total

abbrev pub completion_of : Saved → Completion
completion_of c = record { e = c.ep; left = c.st; frame = c.frame; of = c.now }

-- the transmit address is written, of the endpoint that completes
abbrev pub sent_at : Completion → Advance
sent_at x = advance.Completing x.e x.left x.frame (complete.Sent x.of)

-- its length is
abbrev pub loaded_at : Completion → Advance
loaded_at x = advance.Completing x.e x.left x.frame (complete.Loaded x.of)
