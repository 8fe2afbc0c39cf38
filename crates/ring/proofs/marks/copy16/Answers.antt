use Rattle.std.proofs.Common.{◌+◌, ◌∙◌}
use Rattle.ring.proofs.Laws.{four-stores, sixteen}
use Rattle.ring.proofs.marks.copy16.Goals as goal

pub returns : goal.returns
returns c =
    let f4 = c.put4-4.ensures ∙ four-stores c.args.packet.now c.put4-3.new.s (c.args.i + 12) c.get4-d.ensures in
    let f3 = c.put4-3.ensures ∙ four-stores c.args.packet.now c.put4-2.new.s (c.args.i + 8) c.get4-c.ensures in
    let f2 = c.put4-2.ensures ∙ four-stores c.args.packet.now c.put4.new.s (c.args.i + 4) c.get4-b.ensures in
    let f1 = c.put4.ensures ∙ four-stores c.args.packet.now c.args.part.now c.args.i c.get4-a.ensures in
    rw (f4, f3, f2, f1) (sixteen c.args.packet.now c.args.part.now c.args.i)
