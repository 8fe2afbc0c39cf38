use Rattle.std.proofs.Common.{◌+◌, ◌*◌, ap, ◌∙◌, arith}
use Rattle.bits.specs.Bytes.{bytes}
use Rattle.state.specs.Codec.{request_widths, request_as}
use Rattle.state.specs.Driver.{no_request}
use Rattle.state.specs.State.{view, saved}
use Rattle.state.proofs.Views.{view-requests, saved-off}
use Rattle.state.proofs.Filling.{requests_table, none_yet, one_more, all_done}
use Rattle.state.proofs.start_up.fill_requests.Goals as goal

pub loop-k-init : goal.loop-k-init
loop-k-init c = none_yet requests_table no_request 32 c.args.s.now

pub loop-k-preserved : goal.loop-k-preserved
loop-k-preserved c =
    one_more requests_table no_request 32 c.args.s.now c.loop-k.k c.loop-k.s _ (omega arith)
    (ap view c.write_request.ensures ∙ view-requests c.loop-k.s (omega arith) c.loop-k.k no_request (omega arith))
    (ap saved c.write_request.ensures ∙ saved-off c.loop-k.s (1064 + c.loop-k.k * 8) (bytes request_widths (request_as no_request)) (omega arith))
    c.loop-k.invariant

pub returns-clause-s_after : goal.returns-clause-s_after
returns-clause-s_after c =
    (all_done requests_table no_request 32 _ _ _ (omega arith) c.loop-k.invariant).0

pub returns-clause-s_unchanged : goal.returns-clause-s_unchanged
returns-clause-s_unchanged c =
    (all_done requests_table no_request 32 _ _ _ (omega arith) c.loop-k.invariant).1
