-- Laws on the definitions of Suspended.antt
use Rattle.std.specs.Prelude.{Bool, true, false, not, cond, List, ◌≡◌, refl, ℕ}
use Rattle.std.proofs.Common.{ap, sym, subst, ◌∙◌}
use Rattle.regs.specs.declared.Access.{Access}
use Rattle.script.specs.Calls.{calls}
use Rattle.script.specs.Machine.{Buf, over}
use Rattle.script.specs.Script.{run}
use Rattle.script.specs.Tree.{bind_out}
use Rattle.script_ops.specs.Concrete.{concrete}
use Rattle.state.specs.Driver.{Driver}
use Rattle.interrupt.specs.declared.nak.Nak.{Nak}
use Rattle.interrupt.specs.declared.nak.Nak.TheVariants as point-of-nak
use Rattle.interrupt.specs.Nak as nak
use Rattle.interrupt.specs.declared.settle.Settle.{Settle}
use Rattle.interrupt.specs.declared.settle.Settle.TheVariants as point-of-settle
use Rattle.interrupt.specs.Settle as settle
use Rattle.interrupt.specs.declared.toggled.Toggled.{Toggled}
use Rattle.interrupt.specs.declared.toggled.Toggled.TheVariants as point-of-toggled
use Rattle.interrupt.specs.Toggled as toggled
use Rattle.isochronous.specs.declared.sof.Sof.{Sof}
use Rattle.isochronous.specs.declared.sof.Sof.TheVariants as point-of-sof
use Rattle.isochronous.specs.Sof as sof
use Rattle.isochronous.specs.declared.out.Check.{Check}
use Rattle.isochronous.specs.declared.out.Check.TheVariants as point-of-check
use Rattle.isochronous.specs.Points as check
use Rattle.interrupt.specs.declared.Point.{Point}
use Rattle.interrupt.specs.declared.Point.TheVariants as point
use Rattle.interrupt.specs.Points as handler
use Rattle.state.specs.declared.Saved.{Saved}
use Rattle.state.specs.State.{view, saved}
use Rattle.script.specs.Tree.{Out}
use Rattle.script.specs.Answers.{Answer, Refused}
use Rattle.script.specs.Machine as ways
use Rattle.script.specs.Machine.{Awaits, Machine, ended, continued}
use Rattle.script_ops.specs.Numbers.{INTERRUPT}
use Rattle.script_ops.specs.Rings.{St}
use Rattle.interrupt.specs.Codec as handlerCodec
use Rattle.interrupt.specs.CodecLaws as handlerCodec-laws
use Rattle.answer.specs.declared.Step.{Step}
use Rattle.answer.specs.declared.Step.TheVariants as step
use Rattle.answer.specs.Goes.{StepResult}
use Rattle.interrupt.specs.Suspended as under
use Rattle.interrupt.specs.Suspended.{Suspended, as_saved, encode, decode, finish, driver_of, halts_as, answer_of}
use Rattle.interrupt.specs.Suspended.{machine_at}
use Rattle.interrupt.specs.Suspended.{machine_of, resumed, handed_out, Canonical, SavedByAnswer, Stored, StandsAt}

pub decode-encode : (u : Suspended) → decode (encode u) ≡ u
unfolding encode decode handlerCodec.encode handlerCodec.decode
decode-encode under.Idle = refl
decode-encode (under.Interrupt p) = ap under.Interrupt (handlerCodec-laws.decode-encode p)

encoded : (u : Suspended) (x : Saved) → x ≡ encode u → x ≡ encode (decode x)
encoded u x e = e ∙ ap encode (sym (ap decode e ∙ decode-encode u))

canonical : (u : Suspended) (xs : List ℕ) → saved xs ≡ encode u → Canonical xs
canonical u xs e = encoded u (saved xs) e

-- `encode` is shut elsewhere
pub by-table : (u : Suspended) → as_saved u ≡ encode u
unfolding encode
by-table u = refl

-- the point that a record with an interrupt's tag is
pub at-interrupt : (c : Saved) (p : Point) → c.tag ≡ INTERRUPT → p ≡ handlerCodec.decode c → decode c
    ≡ under.Interrupt p
unfolding decode
at-interrupt c p t h = simp (t, h)

-- all 22 bytes are pinned
pub stored-by : {A : Type 0} {Says : A → Step → Type 0} {r : A} {q : Access} {u : Suspended} {xs ys : List ℕ}
    → StandsAt A Says r q u xs ys → (z : Step) → z ≡ step.Asks q → Stored z ys
stored-by {u = u} {ys = ys} h z e zs = subst (λ (w : Step). SavedByAnswer w zs ys) (sym e)
    (canonical u ys (h.stored ∙ by-table u))

given : (z : Step) (q : Access) (u : Suspended) (xs ys out : List ℕ) (b : Buf) → z ≡ step.Asks q → view ys ≡ view xs
    → decode (saved ys) ≡ u
    → ◌≡◌ {A = StepResult} (answer_of z out (view ys), machine_of ys b) (handed_out q u (view xs) b)
given z q u xs ys out b e v k = simp (e, v, k)

-- the access is handed out at u
pub handed_out_lem : {A : Type 0} {Says : A → Step → Type 0} {r : A} {q : Access} {u : Suspended} {xs ys : List ℕ}
    → StandsAt A Says r q u xs ys → (z : Step) → z ≡ step.Asks q → (out : List ℕ) (b : Buf)
    → ◌≡◌ {A = StepResult} (answer_of z out (view ys), machine_of ys b) (handed_out q u (view xs) b)
handed_out_lem {q = q} {u = u} {xs = xs} {ys = ys} h z e out b
    = given z q u xs ys out b e h.viewed (ap decode (h.stored ∙ by-table u) ∙ decode-encode u)

-- row 16: it stays awaited
abbrev pub stayed : Suspended → Driver → Buf → StepResult
stayed u d b = (ended (Refused 16), machine_at u d b)

abbrev waiting : Bool → Awaits → (ℕ → St → Out St Answer) → Driver → Buf → Machine Answer Driver
waiting i q k d b = record { under_way_lem = ways.busy i q k; st = d; buf = b }

abbrev goes : Bool → Awaits → (ℕ → St → Out St Answer) → ℕ → Driver → Buf → Bool → StepResult
goes i q k v d b x = cond x (ended (Refused 16), waiting i q k d b) (halts_as i (k v (d, b)))

gone : (i : Bool) (q : Awaits) (k : ℕ → St → Out St Answer) (v : ℕ) (d : Driver) (b : Buf) → over calls q v ≡ false
    → continued calls driver_of (λ s. s) v (waiting i q k d b) (ways.busy i q k) b ≡ halts_as i (k v (d, b))
gone i q k v d b h = ap (goes i q k v d b) h

stays : (i : Bool) (q : Awaits) (k : ℕ → St → Out St Answer) (v : ℕ) (d : Driver) (b : Buf) → over calls q v ≡ true
    → continued calls driver_of (λ s. s) v (waiting i q k d b) (ways.busy i q k) b
    ≡ (ended (Refused 16), waiting i q k d b)
stays i q k v d b h = ap (goes i q k v d b) h

over-fits-nak : (p : Nak) (v : ℕ) → over calls (nak.awaits_at p) v ≡ not (nak.fits_at p v)
unfolding nak.fits_at
over-fits-nak (point-of-nak.Word d) v = refl
over-fits-nak point-of-nak.Wrote v = refl

over-fits-settle : (p : Settle) (v : ℕ) → over calls (settle.awaits_at p) v ≡ not (settle.fits_at p v)
unfolding settle.fits_at nak.fits_at
over-fits-settle (point-of-settle.IsoLook n) v = refl
over-fits-settle point-of-settle.IsoSt v = refl
over-fits-settle (point-of-settle.IsoLen now) v = refl
over-fits-settle (point-of-settle.BulkLook n) v = refl
over-fits-settle point-of-settle.BulkLen v = refl
over-fits-settle point-of-settle.Mis v = refl
over-fits-settle point-of-settle.Flags v = refl
over-fits-settle point-of-settle.St v = refl
over-fits-settle (point-of-settle.Nak st p) v = over-fits-nak p v

over-fits-toggled : (p : Toggled) (v : ℕ) → over calls (toggled.awaits_at p) v ≡ not (toggled.fits_at p v)
unfolding toggled.fits_at
over-fits-toggled (point-of-toggled.Look n) v = refl
over-fits-toggled point-of-toggled.Word v = refl
over-fits-toggled point-of-toggled.AckRead v = refl
over-fits-toggled point-of-toggled.Acked v = refl

over-fits-sof : (p : Sof) (v : ℕ) → over calls (sof.awaits_at p) v ≡ not (sof.fits_at p v)
unfolding sof.fits_at
over-fits-sof (point-of-sof.Mis e m) v = refl
over-fits-sof (point-of-sof.St e m) v = refl
over-fits-sof (point-of-sof.Completing m p) v = refl
over-fits-sof point-of-sof.Callback v = refl

over-fits-check : (p : Check) (v : ℕ) → over calls (check.awaits_at p) v ≡ not (check.fits_at p v)
unfolding check.fits_at
over-fits-check (point-of-check.St e m) v = refl
over-fits-check (point-of-check.Armed e m) v = refl

pub over-fits-interrupt : (p : Point) (v : ℕ) → over calls (handler.awaits_at p) v ≡ not (handler.fits_at p v)
unfolding handler.fits_at
over-fits-interrupt point.Frame v = refl
over-fits-interrupt point.Flags v = refl
over-fits-interrupt (point.BusRst f) v = refl
over-fits-interrupt (point.Suspend f) v = refl
over-fits-interrupt (point.Fifo f) v = refl
over-fits-interrupt (point.Host f) v = refl
over-fits-interrupt (point.Mis setup) v = refl
over-fits-interrupt (point.St setup busy) v = refl
over-fits-interrupt (point.Len setup busy st) v = refl
over-fits-interrupt (point.Nak setup x p) v = over-fits-nak p v
over-fits-interrupt (point.Released setup x) v = refl
over-fits-interrupt (point.Settle setup x p) v = over-fits-settle p v
over-fits-interrupt (point.FrameNo setup x iso) v = refl
over-fits-interrupt (point.Sof setup x iso frame p) v = over-fits-sof p v
over-fits-interrupt (point.Late setup x iso frame p) v = refl
over-fits-interrupt (point.SofArm setup x iso frame p) v = over-fits-sof p v
over-fits-interrupt (point.Flip d setup x iso) v = refl
over-fits-interrupt (point.Flipped d setup x iso) v = refl
over-fits-interrupt (point.Toggled d setup x iso p) v = over-fits-toggled p v
over-fits-interrupt (point.Completing setup x iso p) v = refl
over-fits-interrupt (point.Check setup x iso p) v = over-fits-check p v
over-fits-interrupt (point.MovedRead d setup) v = refl
over-fits-interrupt (point.MovedWrote d setup) v = refl
over-fits-interrupt point.SetupRx v = refl
over-fits-interrupt point.SetupTx v = refl
over-fits-interrupt point.SetupReleased v = refl

-- ---- a continue at them

pub gone-interrupt : (p : Point) (v : ℕ) (d : Driver) (b : Buf) → handler.fits_at p v ≡ true
    → resumed v (under.Interrupt p) d b ≡ halts_as true
    (bind_out (handler.denote p v (d, b)) (λ n u. run concrete (finish n) u))
gone-interrupt p v d b h = gone true (handler.awaits_at p)
    (λ x t. bind_out (handler.denote p x t) (λ n u. run concrete (finish n) u)) v d b (over-fits-interrupt p v
    ∙ ap not h)

pub stay-interrupt : (p : Point) (v : ℕ) (d : Driver) (b : Buf)
    → handler.fits_at p v ≡ false → resumed v (under.Interrupt p) d b ≡ stayed (under.Interrupt p) d b
stay-interrupt p v d b h = stays true (handler.awaits_at p)
    (λ x t. bind_out (handler.denote p x t) (λ n u. run concrete (finish n) u)) v d b (over-fits-interrupt p v
    ∙ ap not h)

-- ---- a continue at the point that the saved record is

module _ (c : Saved) (u : Suspended) (v : ℕ) (d : Driver) (b : Buf) (e : decode c ≡ u) where
  -- what the operation comes to
  pub going : {x y : StepResult} → resumed v u d b ≡ x → y ≡ x → y ≡ resumed v (decode c) d b
  going h k = k ∙ (sym h ∙ ap (λ (w : Suspended). resumed v w d b) (sym e))

  -- it stays where it is
  pub staying : resumed v u d b ≡ stayed u d b → stayed (decode c) d b ≡ resumed v (decode c) d b
  staying h = ap (λ (w : Suspended). stayed w d b) e ∙ (sym h ∙ ap (λ (w : Suspended). resumed v w d b) (sym e))
