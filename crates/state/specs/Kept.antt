-- The globals set anew in two groups; the registers that are kept and never read
use Rattle.std.specs.Prelude.{ℕ}
use Rattle.state.specs.declared.Globals.{Globals}

-- those that scripts assign
abbrev pub with_assigned : Globals → (power ready low high intEn epType paced frame entered : ℕ) → Globals
with_assigned g power ready low high intEn epType paced frame entered = record {
  stage = g.stage;
  callback = g.callback;
  power = power;
  setup_ready = ready;
  setup_low = low;
  setup_high = high;
  int_en = intEn;
  ep_config = g.ep_config;
  ep_type = epType;
  iso_out_eps = g.iso_out_eps;
  iso_in_every = g.iso_in_every;
  iso_in_paced = paced;
  sof_frame = frame;
  ep0_buf = g.ep0_buf;
  ep0_max = g.ep0_max;
  entered = entered;
}

-- those that change by operations of their own; the callback stays
abbrev pub with_settings : Globals → (stage epConfig outs every buffer maximum : ℕ) → Globals
with_settings g stage epConfig outs every buffer maximum = record {
  stage = stage;
  callback = g.callback;
  power = g.power;
  setup_ready = g.setup_ready;
  setup_low = g.setup_low;
  setup_high = g.setup_high;
  int_en = g.int_en;
  ep_config = epConfig;
  ep_type = g.ep_type;
  iso_out_eps = outs;
  iso_in_every = every;
  iso_in_paced = g.iso_in_paced;
  sof_frame = g.sof_frame;
  ep0_buf = buffer;
  ep0_max = maximum;
  entered = g.entered;
}

abbrev pub with_ep_config : ℕ → Globals → Globals
with_ep_config v g = with_settings g g.stage v g.iso_out_eps g.iso_in_every g.ep0_buf g.ep0_max

abbrev pub with_written : ℕ → ℕ → Globals → Globals
with_written intEn epType g =
    with_assigned g g.power g.setup_ready g.setup_low g.setup_high intEn epType g.iso_in_paced
    g.sof_frame g.entered

abbrev pub with_ep_type : ℕ → Globals → Globals
with_ep_type v g = with_written g.int_en v g

abbrev pub with_int_en : ℕ → Globals → Globals
with_int_en v g = with_written v g.ep_type g
