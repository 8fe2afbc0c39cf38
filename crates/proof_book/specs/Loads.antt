-- Document 01: "Checks, loads .. fall where the Rust's do with the kept values". Which IN endpoints an interrupt loads:
-- the one whose token it serves, and those that went out unseen. By the calls, what they bring, their answers and the
-- kept values of the book. Definitions; FrontPage.antt says it of every call
use Rattle.std.specs.Prelude.{Bool, true, false, not, cond, ◌&&◌, ◌||◌, List, [], ◌∷◌, ◌⊎◌, ◌≡◌, ℕ, ◌%◌, eqb}
use Rattle.bits.specs.Bit.{bit_is_set}
use Rattle.regs.specs.declared.Access.{Access}
use Rattle.regs.specs.declared.Access.TheVariants.{Read, Write, Receive, Transmit, Ep0Dma, Wait, Callback}
use Rattle.regs.specs.declared.Reg.TheVariants.{IntFg, IntSt, MisSt, FrameNo, EpTLen}
use Rattle.regs.specs.declared.Dir.TheVariants.{Out, In}
use Rattle.regs.specs.Flags.{transfer}
use Rattle.regs.specs.Status.{endpoint, is_out, is_sof}
use Rattle.regs.specs.MisStatus.{sie_free}
use Rattle.frame.specs.Usb20.{index_of, frame_of}
use Rattle.frame.specs.Advance.{previous, in_previous}
use Rattle.script.specs.Every.{same_reg}
use Rattle.script.specs.Statics.{every_iso_in}
use Rattle.script.specs.IsoIn.{leaving}
use Rattle.script.specs.Answers.{Answer}
use Rattle.script.specs.Calls.{Config, Op}
use Rattle.script.specs.Machine.{Call, start, begin, continue, question, Ans, ended, handed, told, blank}
use Rattle.proof_book.specs.Pages.{Pages}
use Rattle.proof_book.specs.Book.{iso_of}
use Rattle.proof_book.specs.Lengths.{Known, nothing_read, one_more, bringing, first, second}
use Rattle.proof_book.specs.Arrivals.{reads, again, last}
use Rattle.proof_book.specs.Others.{sends_to, hands_out}

-- ---- what the interrupt under way was brought

pub record Heard : Type 0 where
  -- the access handed out last, the readings of mis_st, int_st and rx_len; those of int_fg and frame_no
  pub known : Known
  pub flags : List ℕ
  pub frames : List ℕ
  -- the microframe whose SOF was served last, as the book keeps it when the operation begins
  pub sof : ℕ
  -- a status that was read after the transfer's frame showed IN e on the bus
  pub on_bus : ℕ → Bool

-- a continue brings v
abbrev pub hears : ℕ → Heard → Heard
hears v k =
    let q = k.known.asked in
    record {
      known = record { asked = q; readings = bringing q v k.known.readings };
      flags = one_more (reads IntFg q) v k.flags;
      frames = one_more (reads FrameNo q) v k.frames;
      sof = k.sof;
      on_bus = λ e. (reads IntSt q && (again k.frames && leaving v e)) || k.on_bus e;
    }

-- an access is handed out
abbrev pub handing : Access → Heard → Heard
handing q k = record {
  known = record { asked = blank q; readings = k.known.readings };
  flags = k.flags;
  frames = k.frames;
  sof = k.sof;
  on_bus = k.on_bus;
}

-- an operation begins, where the book is t
abbrev pub unheard : Pages → Heard
unheard t = record {
  known = record { asked = Callback; readings = nothing_read };
  flags = [];
  frames = [];
  sof = t.kept.globals.sof_frame;
  on_bus = λ e. false;
}

-- after a call, with the book t before it
abbrev pub hearing : Call Config Op → Ans Answer → Pages → Heard → Heard
hearing (start c) (handed q) t k = handing q (unheard t)
hearing (start c) (ended a) t k = k
hearing (start c) (told n) t k = k
hearing (begin o) (handed q) t k = handing q (unheard t)
hearing (begin o) (ended a) t k = k
hearing (begin o) (told n) t k = k
hearing (continue v) (handed q) t k = handing q (hears v k)
hearing (continue v) (ended a) t k = k
hearing (continue v) (told n) t k = k
hearing (question q) a t k = k

-- ---- the kept values by which IN e is loaded

pub record Values : Type 0 where
  -- the isochronous OUT endpoints
  pub outs : ℕ → Bool
  -- IN e: isochronous; paced by advances; enabled, with a packet in each microframe, and not paced
  pub iso : Bool
  pub paced : Bool
  pub every : Bool

abbrev pub values_of : Pages → ℕ → Values
values_of t e = record {
  outs = λ f. iso_of t Out f;
  iso = iso_of t In e;
  paced = bit_is_set t.kept.globals.iso_in_paced e;
  every = bit_is_set (every_iso_in t.kept.globals) e;
}

-- the microframe in which IN e was complete last
abbrev pub last_in : Pages → ℕ → ℕ
last_in t e = (t.kept.plain In e).last_frame

-- ---- what the readings say

-- the frame that was read for the transfer, after the one with which the interrupt began
abbrev pub frame_read : Heard → ℕ
frame_read k = second k.frames

-- the flags, read again, show that the release took the transfer's
abbrev pub retook : List ℕ → Bool
retook fs = again fs && not (transfer (second fs))

-- the status by which the interrupt goes (`settled` of Arrivals.antt)
abbrev pub settled_status : Heard → ℕ
settled_status k = cond (retook k.flags) (second k.known.readings.status) (first k.known.readings.status)

-- its token was over when it was read: the engine was free, or the release took its flag
abbrev pub over : Heard → Bool
over k = sie_free (first k.known.readings.engine) || retook k.flags

-- it serves a transfer, whose frame it has read
abbrev pub serving : Heard → Bool
serving k = transfer (first k.flags) && again k.frames

-- the token is IN e, and it is over; or it is known to be this microframe's, whose SOF was served before
abbrev pub own_token : Heard → ℕ → Bool
own_token k e = leaving (settled_status k) e && (over k || eqb k.sof (frame_read k))

-- the microframe is a new one; a SOF that is still on the bus does not count
abbrev pub new_frame : Heard → Bool
new_frame k = not (eqb k.sof (frame_read k)) && (not (is_sof (settled_status k)) || over k)

-- an isochronous OUT was on the bus when the interrupt began
abbrev pub late_entry : Heard → Values → Bool
late_entry k J = let st = first k.known.readings.status in
    not (sie_free (first k.known.readings.engine)) && (is_out st && J.outs (endpoint st))

-- by the number just brought IN e is not on the bus: the engine is free, or its token is another
abbrev pub off_bus : Heard → ℕ → Bool
off_bus k e = cond (reads MisSt k.known.asked) (sie_free (last k.known.readings.engine))
    (reads IntSt k.known.asked && not (leaving (last k.known.readings.status) e))

-- ---- a load

-- an access with which IN e is loaded, where `asked` was handed out before: its transmit address, or a length 0 that
-- does not follow its transmit address
abbrev pub loads_by : Access → Access → ℕ → Bool
loads_by asked (Read r f) e = false
loads_by asked (Write r f v) e =
    same_reg r EpTLen && (eqb v 0 && (eqb (e % 16) (f % 16) && not (sends_to asked e)))
loads_by asked (Receive f x) e = false
loads_by asked (Transmit f x) e = eqb (e % 16) (f % 16)
loads_by asked (Ep0Dma x) e = false
loads_by asked (Wait n) e = false
loads_by asked Callback e = false

abbrev pub loads_in : Access → Ans Answer → ℕ → Bool
loads_in asked a e = hands_out (λ q. loads_by asked q e) a

-- one call of an interrupt, for IN e: with no load the microframe of its last packet stays (before l, after m). It is
-- loaded for its own token, the first time in that microframe; where it went out unseen in the microframe before; or
-- before an OUT that was on the bus
pub data Loads (k : Heard) (J : Values) (e l m : ℕ) : Bool → Type 0 where
  none : m ≡ l → Loads k J e l m false
  own : serving k ≡ true → own_token k e ≡ true → J.iso ≡ true → J.paced ≡ false → eqb l (frame_read k) ≡ false
      → m ≡ frame_read k → Loads k J e l m true
  unseen : serving k ≡ true → new_frame k ≡ true → J.every ≡ true → in_previous l (frame_read k) ≡ false
      → off_bus k e ≡ true → m ≡ frame_of (previous (index_of (frame_read k))) → Loads k J e l m true
  late : serving k ≡ true → late_entry k J ≡ true → J.every ≡ true → eqb l (frame_read k) ≡ false
      → m ≡ frame_read k → Loads k J e l m true

-- ---- an interrupt that ends

abbrev pub some : List ℕ → Bool
some [] = false
some (x ∷ l) = true

-- of one that serves a transfer, where IN e was complete last in microframe m, and the SOF served last is s
pub record Completed (k : Heard) (J : Values) (e m s : ℕ) : Type 0 where
  -- it has read its status and its frame
  pub status : some k.known.readings.status ≡ true
  pub frame : again k.frames ≡ true
  -- its token is complete, and so are those that went out before a late OUT
  pub own : (own_token k e && (J.iso && not J.paced)) ≡ true → m ≡ frame_read k
  pub late : (late_entry k J && J.every) ≡ true → m ≡ frame_read k
  -- in a new microframe those of the one before are complete, unless one is still on the bus
  pub unseen : (new_frame k && J.every) ≡ true
      → (m ≡ frame_read k) ⊎ ((in_previous m (frame_read k) ≡ true) ⊎ (k.on_bus e ≡ true))
  pub sof : s ≡ cond (new_frame k) (frame_read k) k.sof

-- it has read its flags
pub data SentAll (k : Heard) (J : Values) (e m s : ℕ) : Type 0 where
  no_transfer : some k.flags ≡ true → transfer (first k.flags) ≡ false → s ≡ k.sof → SentAll k J e m s
  served : some k.flags ≡ true → transfer (first k.flags) ≡ true → Completed k J e m s → SentAll k J e m s
