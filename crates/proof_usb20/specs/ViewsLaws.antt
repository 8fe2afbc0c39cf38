-- What the driver's operations do to what its state says of endpoint 0
use Rattle.std.specs.Prelude.{List, ◌≢◌, ◌≡◌, refl, ℕ, ◌*◌, length}
use Rattle.std.proofs.Common.{ap, sym, arith, get_or-set_same, get_or-set_other}
use Rattle.regs.specs.declared.Dir.{Dir}
use Rattle.regs.specs.declared.Dir.TheVariants.{Out, In}
use Rattle.state.specs.declared.EpState.{EpState}
use Rattle.state.specs.declared.Globals.{Globals}
use Rattle.state.specs.declared.Control.{Control}
use Rattle.state.specs.Driver.{Driver, key, no_ep, ep_on, with_on}
use Rattle.state.specs.Laws.{key-lt, key_apart}
use Rattle.script.specs.Control.{setup_bytes}
use Rattle.script.specs.Cells.{EpCore, ep-cell, globals-cell, control-cell}
use Rattle.script_ops.specs.Records.{merged}
use Rattle.script_ops.specs.Rings.{St}
use Rattle.script_ops.specs.Concrete.{concrete}
use Rattle.proof_usb20.specs.Ep0.{Rec, View, rec_of, view}

abbrev pub rec : EpCore → Rec
rec p = record { ready = p.ready; armed = p.armed; len = p.len }

abbrev pub out_is_set : Rec → View → View
out_is_set r x = record {
  out = r;
  inn = x.inn;
  control = x.control;
  setup_ready = x.setup_ready;
  setup_bytes_lem = x.setup_bytes_lem;
  stage = x.stage;
  maximum = x.maximum;
  buffer = x.buffer;
  room = x.room;
}

abbrev pub set_in : Rec → View → View
set_in r x = record {
  out = x.out;
  inn = r;
  control = x.control;
  setup_ready = x.setup_ready;
  setup_bytes_lem = x.setup_bytes_lem;
  stage = x.stage;
  maximum = x.maximum;
  buffer = x.buffer;
  room = x.room;
}

abbrev pub set_control : Control → View → View
set_control c x = record {
  out = x.out;
  inn = x.inn;
  control = c;
  setup_ready = x.setup_ready;
  setup_bytes_lem = x.setup_bytes_lem;
  stage = x.stage;
  maximum = x.maximum;
  buffer = x.buffer;
  room = x.room;
}

abbrev pub set_ready : ℕ → List ℕ → View → View
set_ready n l x = record {
  out = x.out;
  inn = x.inn;
  control = x.control;
  setup_ready = n;
  setup_bytes_lem = l;
  stage = x.stage;
  maximum = x.maximum;
  buffer = x.buffer;
  room = x.room;
}

ep-same : (d : Driver) (dir : Dir) (e : ℕ) (r : EpState) → length d.eps ≡ 32 → ep_on (with_on d dir e r) dir e ≡ r
unfolding ep_on with_on
ep-same d dir e r h = get_or-set_same d.eps (key dir e) r no_ep (omega (arith, h, key-lt dir e))

pub ep-other : (d : Driver) (dir : Dir) (e : ℕ) (r : EpState) (dir' : Dir) (e' : ℕ) → key dir' e' ≢ key dir e
    → ep_on (with_on d dir e r) dir' e' ≡ ep_on d dir' e'
unfolding ep_on with_on
ep-other d dir e r dir' e' h = get_or-set_other d.eps (key dir e) (key dir' e') r no_ep h

pub made : (d : Driver) (x : View) → rec_of (ep_on d Out 0) ≡ x.out → rec_of (ep_on d In 0) ≡ x.inn
    → d.control ≡ x.control → d.globals.setup_ready ≡ x.setup_ready → d.globals.stage ≡ x.stage
    → d.globals.ep0_max ≡ x.maximum → d.globals.ep0_buf ≡ x.buffer → setup_bytes d.globals ≡ x.setup_bytes_lem
    → d.allocator.count * d.allocator.size ≡ x.room → view d ≡ x
unfolding setup_bytes
made d x p q c g t m b e r = rw (p, q, c, g, t, m, b, e, r) refl

-- EP0's own records
pub put-out : (v : EpCore) (s : St) → length s.0.eps ≡ 32
    → view (concrete.put (ep-cell Out 0) v s).0 ≡ out_is_set (rec v) (view s.0)
unfolding with_on
put-out v s h = made _ _ (ap rec_of (ep-same s.0 Out 0 (merged (ep_on s.0 Out 0) v) h))
    (ap rec_of (ep-other s.0 Out 0 (merged (ep_on s.0 Out 0) v) In 0 (λ z. key_apart 0 0
    (sym z)))) refl refl refl refl refl refl refl

pub put_in : (v : EpCore) (s : St) → length s.0.eps ≡ 32
    → view (concrete.put (ep-cell In 0) v s).0 ≡ set_in (rec v) (view s.0)
unfolding with_on
put_in v s h = made _ _ (ap rec_of (ep-other s.0 In 0 (merged (ep_on s.0 In 0) v) Out 0 (λ z. key_apart 0 0 z)))
    (ap rec_of (ep-same s.0 In 0 (merged (ep_on s.0 In 0) v) h)) refl refl refl refl refl refl refl

pub put_control : (c : Control) (s : St) → view (concrete.put control-cell c s).0 ≡ set_control c (view s.0)
unfolding ep_on
put_control c s = refl

pub put_globals : (g : Globals) (s : St)
    → view (concrete.put globals-cell g s).0 ≡ set_ready g.setup_ready (setup_bytes g) (view s.0)
unfolding ep_on setup_bytes
put_globals g s = refl
