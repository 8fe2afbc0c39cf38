use Rattle.bus.specs.IsoOutEnableLaws.{one_left, switch-config, switch-slot, switch-type, switch-word}
use mathlib.Core.Path.{refl}
use Rattle.bus.proofs.iso_out_enable.after_switch.Goals as goal

pub returns-then-n-gt3 : goal.returns-then-n-gt3
returns-then-n-gt3 c =
    record {
      buf_after = simp (
        c.slot_step-at.ensures.value,
        c.slot_step-at.ensures.s_after,
        c.slot_step-at.ensures.buf_after,
        switch-slot c.args.e c.args.on _ c.if-n-gt3.true,
      );
      s_unchanged = c.slot_step-at.ensures.s_unchanged;
      awaited = refl;
    }

pub returns-then-n-eq3 : goal.returns-then-n-eq3
returns-then-n-eq3 c =
    record {
      buf_after = simp (c.switch_word-word.ensures, c.if-n-eq3.true, switch-word);
      s_unchanged = refl;
      awaited = refl;
    }

pub returns-then-n-eq2 : goal.returns-then-n-eq2
returns-then-n-eq2 c =
    record {
      buf_after = simp (c.type_step-word.ensures.value, c.type_step-word.ensures.s_after, c.if-n-eq2.true, switch-type);
      s_unchanged = c.type_step-word.ensures.s_unchanged;
      awaited = refl;
    }

pub returns : goal.returns
returns c =
    let one = one_left _ c.requires c.if-n-gt3.false c.if-n-eq3.false c.if-n-eq2.false in
    record {
      buf_after = simp (c.config_step-word.ensures.value, c.config_step-word.ensures.s_after, one, switch-config);
      s_unchanged = c.config_step-word.ensures.s_unchanged;
      awaited = refl;
    }
