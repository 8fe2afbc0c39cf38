use Rattle.regs.proofs.int_en.with_bus_rst.Goals as goal

pub returns : goal.returns
returns c = c.byte_with.ensures
