use Rattle.std.proofs.Common.{ap, ◌∙◌}
use Rattle.state.specs.Driver.{Driver, no_request, with_lens, with_paced, with_requests, with_globals, with_allocator}
use Rattle.state.specs.Driver.{with_control, with_wakes}
use Rattle.state.specs.Wakes.{none_woken}
use Rattle.state.specs.Fresh.{filled, no_stamps, fresh_globals, fresh_allocator, no_control}
use Rattle.state.proofs.Filling.{made-afresh}
use Rattle.state.proofs.start_up.fresh.Goals as goal

pub returns : goal.returns
unfolding no_stamps
returns c =
    record {
      s_after = c.fresh_saved.ensures.s_unchanged ∙ c.fresh_wakes.ensures.s_after
          ∙ ap (λ (d : Driver). with_wakes d none_woken) (c.fresh_control.ensures
          ∙ ap (λ (d : Driver). with_control d no_control) (c.fresh_allocator.ensures
          ∙ ap (λ (d : Driver). with_allocator d (fresh_allocator c.args.size c.args.count))
          (c.fresh_globals.ensures ∙ ap (λ (d : Driver). with_globals d (fresh_globals c.args.callback))
          (c.fill_requests.ensures.s_after ∙ ap (λ (d : Driver). with_requests d (filled d.requests 0 32 no_request))
          (c.fill_paced.ensures.s_after ∙ ap (λ (d : Driver). with_paced d (filled d.paced 0 16 0x1800))
          (c.clear_all_stamps.ensures.s_after ∙ ap no_stamps (c.fill_lengths.ensures.s_after
          ∙ ap (λ (d : Driver). with_lens d (filled d.lens 0 512 0)) c.fill_eps.ensures.s_after)))))))
          ∙ made-afresh c.args.s.now c.args.size c.args.count c.args.callback;
      s_after_2 = c.fresh_saved.ensures.s_after;
    }
