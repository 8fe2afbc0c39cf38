use Rattle.state.proofs.codec.read_control.Goals as goal

pub returns : goal.returns
returns c =
    (c.get8.ensures, (c.get8-2.ensures, (c.get32.ensures, (c.get8-3.ensures, (c.get8-4.ensures, (c.get8-5.ensures, tt))))))
