use mathlib.Core.Path.{◌∙◌, ap, refl}
use Rattle.state.specs.State.{view, saved}
use Rattle.state.specs.declared.Allocator.{Allocator}
use Rattle.descriptor.specs.Writing.{stored}
use Rattle.descriptor.specs.declared.preview.Trial.{Trial}
use Rattle.descriptor.specs.Trial.{trial_of}
use Rattle.machine.specs.Suspended.{decode}
use Rattle.calls.specs.ListedLaws.{all_given, all-refused}
use Rattle.calls.proofs.listed_calls.allocate_listed.Goals as goal

pub suspend_or_end-requires : goal.suspend_or_end-requires
suspend_or_end-requires c = c.announce_all.ensures.linked

pub returns-then-row-eq0 : goal.returns-then-row-eq0
returns-then-row-eq0 c =
    let t = ap (λ (x : Trial). x.refusal)
    (c.try_all-t.ensures ∙ ap (λ (x : Allocator). trial_of x (stored c.args.list))
    c.load_allocator.ensures) in
    record {
      by_index = λ b. c.suspend_or_end.ensures.steps_to b ∙ all_given (stored c.args.list) (view c.args.s.now) b _ t _ _ _
          c.if-row-eq0.true (c.announce_all.ensures.by_index b) c.clear_wakes.ensures.s_after c.allocate_each.ensures.s_after;
      saved_by_answer = c.suspend_or_end.ensures.stored _;
    }

pub returns : goal.returns
returns c =
    let t = ap (λ (x : Trial). x.refusal) (c.try_all-t.ensures
    ∙ ap (λ (x : Allocator). trial_of x (stored c.args.list)) c.load_allocator.ensures) in
    record {
      by_index = λ b. all-refused (stored c.args.list) (view c.args.s.now) b _ t (decode (saved c.args.s.now))
          c.requires c.if-row-eq0.false;
      saved_by_answer = refl;
    }
