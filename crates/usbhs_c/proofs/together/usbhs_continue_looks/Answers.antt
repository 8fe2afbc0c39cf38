use mathlib.Core.Path.{◌≡◌, refl, sym, ◌∙◌}
use Prim.Native.Nat.{suc, ◌+◌, ◌<◌}
use native.Mathlib.Omega.{arith}
use borrow.Author.Rules.{rules}
use Rattle.readings.specs.Readings.{lent}
use Rattle.usbhs_c.specs.ReadingsLaws.{continued, both-rows, one_more, all-looked, looked-less}
use Rattle.usbhs_c.proofs.together.usbhs_continue_looks.Goals as goal

pub overflow_sub-left : goal.overflow_sub-left
overflow_sub-left c = c.look.ensures.0

pub loop-left-init : goal.loop-left-init
loop-left-init c = (0, omega arith, refl, refl)

pub shape_of-slots-then-word-read_word : goal.shape_of-slots-then-word-read_word
shape_of-slots-then-word-read_word c = search (rules, c.loop-left.invariant.2)

pub returns-then-word-read_word : goal.returns-then-word-read_word
returns-then-word-read_word c =
    let l = lent c.args.s.now c.args.slots.now c.args.time.now in
    let m = lent c.loop-left.s c.loop-left.slots c.loop-left.time in
    let less : c.look.result + c.loop-left.invariant.0 < c.args.looks = omega (arith, c.loop-left.invariant.1, c.look.ensures.0) in
    looked-less c.args.driver c.args.busy c.args.last (c.look.result + c.loop-left.invariant.0) c.args.looks less l m (lent _ _ _)
    (both-rows c.args.driver c.args.busy c.args.last c.look.result c.loop-left.invariant.0 _ refl l
    (lent _ c.args.slots.now c.args.time.now) m
    (c.look.ensures.1 c.args.driver c.args.time.now) c.loop-left.invariant.3)
    _ (continued _ c.args.driver c.args.busy m (lent _ _ _) c.go_on-word.ensures)
    (λ e. c.if-word-read_word.true (e ∙ sym c.read_word.ensures))

pub overflow_sub-left-in-loop-left : goal.overflow_sub-left-in-loop-left
overflow_sub-left-in-loop-left c = omega arith

pub loop-left-smaller : goal.loop-left-smaller
loop-left-smaller c = omega arith

pub loop-left-preserved : goal.loop-left-preserved
loop-left-preserved c = (
  suc c.loop-left.invariant.0,
  omega (arith, c.loop-left.invariant.1),
  search (rules, c.loop-left.invariant.2),
  one_more c.args.driver c.args.busy c.args.last c.loop-left.invariant.0 (lent _ c.args.slots.now c.args.time.now)
      (lent c.loop-left.s c.loop-left.slots c.loop-left.time) (lent _ _ _) c.loop-left.invariant.3 _
      (continued _ c.args.driver c.args.busy (lent c.loop-left.s c.loop-left.slots c.loop-left.time) (lent _ _ _)
      c.go_on-word.ensures)
      (c.if-word-read_word.false ∙ c.read_word.ensures),
)

pub shape_of-slots : goal.shape_of-slots
shape_of-slots c = search (rules, c.loop-left.invariant.2)

pub returns : goal.returns
returns c =
    let l = lent c.args.s.now c.args.slots.now c.args.time.now in
    let m = lent c.loop-left.s c.loop-left.slots c.loop-left.time in
    let all : c.look.result + c.loop-left.invariant.0 ≡ c.args.looks = omega (arith, c.loop-left.invariant.1, c.look.ensures.0) in
    all-looked c.args.driver c.args.busy c.args.last c.args.looks l m (lent _ _ _)
    (both-rows c.args.driver c.args.busy c.args.last c.look.result c.loop-left.invariant.0 c.args.looks all l
    (lent _ c.args.slots.now c.args.time.now) m
    (c.look.ensures.1 c.args.driver c.args.time.now) c.loop-left.invariant.3)
    _ (continued _ c.args.driver c.args.last m (lent _ _ _) c.go_on.ensures)
