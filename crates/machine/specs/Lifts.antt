-- An interrupt's machine of its own points (crate `interrupt`) is the machine of calls where the tag is an interrupt's,
-- and after its end. Assumes nothing.
use Rattle.std.specs.Prelude.{List, [], ◌≡◌, refl, ℕ}
use Rattle.std.proofs.Common.{ap, sym, subst, ◌∙◌}
use Rattle.state.specs.declared.Saved.{Saved}
use Rattle.state.specs.Driver.{Driver}
use Rattle.state.specs.State.{view, saved}
use Rattle.state.specs.Fresh as fresh
use Rattle.script.specs.Answers.{Answer}
use Rattle.script.specs.Machine.{Buf, Machine}
use Rattle.script_ops.specs.Numbers.{INTERRUPT}
use Rattle.interrupt.specs.Codec as handlerCodec
use Rattle.answer.specs.declared.Step.{Step}
use Rattle.answer.specs.declared.Step.TheVariants as step
use Rattle.answer.specs.Parts.{step_of}
use Rattle.answer.specs.Word.{Encodes}
use Rattle.interrupt.specs.Suspended as alone
use Rattle.interrupt.specs.SuspendedLaws as alone-laws
use Rattle.machine.specs.declared.Suspended.{Suspended}
use Rattle.machine.specs.declared.Suspended.TheVariants as under
use Rattle.machine.specs.Suspended.{encode, decode, machine_at, machine_of, resumed, answer_of, SavedByAnswer}
use Rattle.machine.specs.SuspendedLaws.{decode-encode}
use Rattle.machine.specs.Stands.{Resumes}
use Rattle.machine.specs.Tags.{at-interrupt}

abbrev pub up : alone.Suspended → Suspended
up alone.Idle = under.Idle
up (alone.Interrupt p) = under.Interrupt p

encode-up : (u : alone.Suspended) → encode (up u) ≡ alone.encode u
unfolding encode alone.encode
encode-up alone.Idle = refl
encode-up (alone.Interrupt p) = refl

machine-up : (u : alone.Suspended) (d : Driver) (b : Buf) → machine_at (up u) d b ≡ alone.machine_at u d b
machine-up alone.Idle d b = refl
machine-up (alone.Interrupt p) d b = refl

resumed-up : (v : ℕ) (u : alone.Suspended) (d : Driver) (b : Buf) → resumed v (up u) d b ≡ alone.resumed v u d b
resumed-up v alone.Idle d b = refl
resumed-up v (alone.Interrupt p) d b = refl

-- both read the record alike
abbrev Alike : Saved → Type 0
Alike c = decode c ≡ up (alone.decode c)

encoded-alike : (u : alone.Suspended) → Alike (alone.encode u)
encoded-alike u = ap decode (sym (encode-up u)) ∙ (decode-encode (up u) ∙ ap up (sym (alone-laws.decode-encode u)))

nothing-alike : Alike fresh.nothing
unfolding alone.encode
nothing-alike = encoded-alike alone.Idle

tagged-alike : (c : Saved) → c.tag ≡ INTERRUPT → Alike c
tagged-alike c t = at-interrupt c (handlerCodec.decode c) t refl
    ∙ ap up (sym (alone-laws.at-interrupt c (handlerCodec.decode c) t refl))

moved : (c e : Saved) → c ≡ e → Alike e → Alike c
moved c e h a = subst Alike (sym h) a

canonical-alike : (ys : List ℕ) → alone.Canonical ys → Alike (saved ys)
canonical-alike ys h = moved (saved ys) (alone.encode (alone.decode (saved ys))) h
    (encoded-alike (alone.decode (saved ys)))

kept-alike : (r : Step) (xs ys : List ℕ) → (saved xs).tag ≡ INTERRUPT → alone.SavedByAnswer r xs ys → Alike (saved ys)
kept-alike (step.Refused n) xs ys t h = moved (saved ys) (saved xs) h (tagged-alike (saved xs) t)
kept-alike (step.Asks q) xs ys t h = canonical-alike ys h
kept-alike (step.Ends n k) xs ys t h = moved (saved ys) fresh.nothing h nothing-alike
kept-alike step.NotYet xs ys t h = moved (saved ys) (saved xs) h (tagged-alike (saved xs) t)
kept-alike (step.Done n) xs ys t h = moved (saved ys) (saved xs) h (tagged-alike (saved xs) t)
kept-alike (step.Setup low high) xs ys t h = moved (saved ys) (saved xs) h (tagged-alike (saved xs) t)
kept-alike (step.Shown at n stamp) xs ys t h = moved (saved ys) (saved xs) h (tagged-alike (saved xs) t)

-- the 22 bytes by an answer
pub saved-up : (r : Step) (xs ys : List ℕ) → alone.SavedByAnswer r xs ys → SavedByAnswer r xs ys
saved-up (step.Refused n) xs ys h = h
saved-up (step.Asks q) xs ys h = h ∙ (sym (encode-up (alone.decode (saved ys)))
    ∙ ap encode (sym (canonical-alike ys h)))
saved-up (step.Ends n k) xs ys h = h
saved-up step.NotYet xs ys h = h
saved-up (step.Done n) xs ys h = h
saved-up (step.Setup low high) xs ys h = h
saved-up (step.Shown at n stamp) xs ys h = h

-- the machine of calls
machine-by : (ys : List ℕ) (b : Buf) → Alike (saved ys) → machine_of ys b ≡ alone.machine_of ys b
machine-by ys b a = ap (λ (u : Suspended). machine_at u (view ys) b) a ∙ machine-up (alone.decode (saved ys)) (view ys) b

pub machine-lifts : (ys : List ℕ) (b : Buf) → alone.Canonical ys → machine_of ys b ≡ alone.machine_of ys b
machine-lifts ys b h = machine-by ys b (canonical-alike ys h)

-- a continue
pub lifts : {r : Step} {v : ℕ} {xs ys : List ℕ} {b after : Buf} → (saved xs).tag ≡ INTERRUPT
    → alone.Resumes r v xs b ys after → Resumes r v xs b ys after
lifts {r} {v} {xs} {ys} {b} {after} t h = record {
  called = ap (λ (m : Machine Answer Driver). (answer_of r [] (view ys), m))
      (machine-by ys after (kept-alike r xs ys t h.kept))
      ∙ (h.called
      ∙ (sym (resumed-up v (alone.decode (saved xs)) (view xs) b)
      ∙ ap (λ (u : Suspended). resumed v u (view xs) b) (sym (tagged-alike (saved xs) t))));
  kept = saved-up r xs ys h.kept;
}

-- the word is its answer's, and by that answer all 22 bytes are pinned, from those before
abbrev pub PinsFrom : ℕ → List ℕ → List ℕ → Type 0
PinsFrom r xs ys = Encodes r (step_of r) × SavedByAnswer (step_of r) xs ys
