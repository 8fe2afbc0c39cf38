-- Demand 3 with the record of bus time, proved: SharedPage.antt has the statement
use Rattle.std.specs.Prelude.{true, false, List, [], ◌∷◌, ◌++◌, ◌≡◌, refl, ℕ, ◌<◌, length}
use Rattle.std.proofs.Common.{true≢false, subst, subst₂, sym, arith}
use Rattle.regs.specs.declared.Access.TheVariants.{Write}
use Rattle.regs.specs.declared.Reg.TheVariants.{EpTLen, EpConfig}
use Rattle.regs.specs.declared.Dir.{Dir}
use Rattle.regs.specs.declared.Dir.TheVariants.{Out, In}
use Rattle.state.specs.State.{view}
use Rattle.state.specs.Driver.{Driver}
use Rattle.script.specs.Answers.{Answer, Refused, End}
use Rattle.script.specs.Calls.{Config, Op, slotted, SetEnabled}
use Rattle.script.specs.Machine.{Buf, Call, begin, continue, question, pending, Machine, Ans, ended, handed, told}
use Rattle.machine.specs.Suspended.{machine_of}
use Rattle.proof_book.specs.Pages.{Packet, Pages}
use Rattle.proof_book.specs.Lengths.{Known, learnt, length_at}
use Rattle.proof_book.specs.Others.{releasing, sends_to, Names, under_way, call_names, Away, SamePage}
use Rattle.proof_book.specs.Arrivals.{Note, after, above}
use Rattle.proof_book.specs.Book.{iso_of}
use Rattle.proof_book.specs.Allocated.{Sorts, sorts_after}
use Rattle.proof_book.specs.Loads.{Heard, hears, hearing, values_of, last_in, loads_in, Loads, SentAll}
use Rattle.proof_book.specs.FrontPage.{Decides, Compared, Sentences, same, AfterCall, LengthWritten, in_interrupt}
use Rattle.proof_book.specs.FrontPage as page
use Rattle.proof_book.proofs.FrontPageLaws.{demand-3}
use Rattle.proof_contracts.specs.SharedPage.{MadeShared, outcome_of, CallStep, Calls, noted, AfterEach}
use Rattle.proof_contracts.specs.SharedPage.{LengthIs, LengthsEach, OthersStay, OthersEach, made_of}
use Rattle.proof_contracts.specs.SharedPage.{ArrivalsEach, OrderEach, LoadLength, ConfigKept, WritesEach}
use Rattle.proof_contracts.specs.SharedPage.{LoadIs, NoneUnsent, LoadsEach, SortsEach}
use Rattle.proof_contracts.specs.SharedPage.{SharedDemand3}
use Rattle.proof_contracts.specs.SharedCall.{as-shared}
use Rattle.proof_contracts.specs.SharedRuns.{AgreedAll}
use Rattle.proof_contracts.proofs.SharedRunsLaws.{agreed-all}
use Rattle.proof_contracts.specs.SharedAlone.{made_alone, all_alone, NotedAll}
use Rattle.proof_contracts.proofs.SharedAloneLaws.{start-alone, all_noted, code-alone}

-- ---- a call that row 19 stops: nothing changes, so what holds after a question holds after it

module _ (dir : Dir) (e : ℕ) (lent b : Buf) (n : Machine Answer Pages) (d : Driver) where
  stopped-compared : (k : ℕ) → Compared (question (pending 0)) n.st (told k) d b n.st
      → Compared (begin (slotted (SetEnabled dir e true))) n.st (ended (Refused 19)) d b n.st
  stopped-compared k x = record {
    ring = x.ring;
    stamps = x.stamps;
    open_shows = λ e stamp bytes p q. let z : ◌≡◌ {A = ℕ} 0 1 = cc in absurd (omega arith);
    write_waits = λ e bytes p q iso fits. let z : ◌≡◌ {A = ℕ} 0 1 = cc in absurd (omega arith);
    poll_waits = λ e len p q iso. let z : ◌≡◌ {A = ℕ} 0 1 = cc in absurd (omega arith);
    poll_gives = λ e len bytes p q iso. let z : ◌≡◌ {A = ℕ} 0 1 = cc in absurd (omega arith);
    row_12 = λ e p q. let z : ◌≡◌ {A = ℕ} 0 1 = cc in absurd (omega arith);
    row_14 = λ e p q. let z : ◌≡◌ {A = ℕ} 0 1 = cc in absurd (omega arith);
    close_reads = λ e p q. let z : ◌≡◌ {A = ℕ} 0 1 = cc in absurd (omega arith);
    overruns_answers = λ e p. let z : ◌≡◌ {A = ℕ} 0 1 = cc in absurd (omega arith);
    row_13 = λ e bytes p q. let z : ◌≡◌ {A = ℕ} 0 1 = cc in absurd (omega arith);
    queue_joins = λ e bytes p q. let z : ◌≡◌ {A = ℕ} 0 1 = cc in absurd (omega arith);
    write_joins = λ e bytes p q i. let z : ◌≡◌ {A = ℕ} 0 1 = cc in absurd (omega arith);
    write_leaves = λ e bytes p q. let z : ◌≡◌ {A = ℕ} 0 1 = cc in absurd (omega arith);
    load_holds = λ e y q. let z : ◌≡◌ {A = ℕ} 0 1 = cc in absurd (omega arith);
  }

  stopped-sentences : (k : ℕ) → Sentences (question (pending 0)) lent n (told k) d b n.st
      → Sentences (begin (slotted (SetEnabled dir e true))) lent n (ended (Refused 19)) d b n.st
  stopped-sentences k x = record {
    read_then_waiting = x.read_then_waiting;
    read_then_stamps = x.read_then_stamps;
    at_most_15 = x.at_most_15;
    capped = x.capped;
    open_waits = x.open_waits;
    decided = λ e y. let p = y.continues in let z : ◌≡◌ {A = ℕ} 0 1 = cc in absurd (omega arith);
    unmoved_slot = λ e v p i r g. let z : ◌≡◌ {A = ℕ} 0 1 = cc in absurd (omega arith);
    begin_slot = λ o e p w g. refl;
    disabled_leaves = λ e v p i g. let z : ◌≡◌ {A = ℕ} 0 1 = cc in absurd (omega arith);
    enabled_is = x.enabled_is;
    enabled_receives = x.enabled_receives;
    slot_told_lem = λ e y q. let z : ◌≡◌ {A = ℕ} 0 1 = cc in absurd (omega arith);
    ep0_told = λ y q. let z : ◌≡◌ {A = ℕ} 0 1 = cc in absurd (omega arith);
    asides_end = λ o p. let z : ◌≡◌ {A = ℕ} 0 1 = cc in absurd (omega arith);
    asides_rows = λ o p. let z : ◌≡◌ {A = ℕ} 0 1 = cc in absurd (omega arith);
    polls_end = λ e k p. let z : ◌≡◌ {A = ℕ} 0 1 = cc in absurd (omega arith);
    enabling_ends = λ dir e on z p q. (19, cc);
    unmoved = λ e v p i g. let z : ◌≡◌ {A = ℕ} 0 1 = cc in absurd (omega arith);
    unmoved_out = λ e v p i g. let z : ◌≡◌ {A = ℕ} 0 1 = cc in absurd (omega arith);
    unmoved_in = λ e v p i g. let z : ◌≡◌ {A = ℕ} 0 1 = cc in absurd (omega arith);
    load_passes = λ e v p i. let z : ◌≡◌ {A = ℕ} 0 1 = cc in absurd (omega arith);
    length_0 = λ e v p i g. let z : ◌≡◌ {A = ℕ} 0 1 = cc in absurd (omega arith);
    advance_begins = λ e f p. let z : ◌≡◌ {A = ℕ} 0 1 = cc in absurd (omega arith);
    early_leaves = λ g e. (refl, refl);
    refusal_leaves = λ r q e. (refl, refl);
    not_yet_leaves = λ q e. let z : ◌≡◌ {A = ℕ} 0 1 = cc in absurd (omega arith);
    stopped_leaves = λ h. refl;
    refused_leaves = λ o r p q. refl;
    counted = λ e. same refl;
    starts_anew = λ g p row e. let z : ◌≡◌ {A = ℕ} 0 1 = cc in absurd (omega arith);
    enabling_resets = λ dir e on q p g. let z : ◌≡◌ {A = ℕ} 0 1 = cc in absurd (omega arith);
    bus_reset_empties = λ v p i g dir e. let z : ◌≡◌ {A = ℕ} 0 1 = cc in absurd (omega arith);
    begin_empties = λ o p g. absurd (true≢false (sym g));
    at_most_2 = x.at_most_2;
    sent_in_order = x.sent_in_order;
    passed_then_waiting = x.passed_then_waiting;
    sent_is = x.sent_is;
    load_moves = λ e y v p i g. let z : ◌≡◌ {A = ℕ} 0 1 = cc in absurd (omega arith);
    load_sends = λ e y v p i g. let z : ◌≡◌ {A = ℕ} 0 1 = cc in absurd (omega arith);
    begin_sends = λ o e y p f m g. let z : ◌≡◌ {A = ℕ} 0 1 = cc in absurd (omega arith);
    enabling_places = λ e f y on p g. let z : ◌≡◌ {A = ℕ} 0 1 = cc in absurd (omega arith);
    sending_ends = x.sending_ends;
    load_tells = λ e y g l. let z : ◌≡◌ {A = ℕ} 0 1 = cc in absurd (omega arith);
    unwritten = x.unwritten;
    inside = tt;
  }

  pub stopped-after : (k : ℕ) → AfterCall (question (pending 0)) lent n (told k) d b n.st
      → AfterCall (begin (slotted (SetEnabled dir e true))) lent n (ended (Refused 19)) d b n.st
  stopped-after k x = record {
    compared = stopped-compared k x.compared;
    sentences = stopped-sentences k
        x.sentences;
  }

-- ---- one call, by what the driver alone does

module _ (i : ℕ) (xs : List ℕ) (a : Buf) (m : MadeShared) (n : Machine Answer Pages) (did : CallStep i xs a m)
    (goes : (noted i m n).1 ≡ (page.book_after (made_alone i xs a m) n).1) where
  abbrev alone : page.CallRecord
  alone = made_alone i xs a m

  -- what is said of the call, its answer and the pages after it
  as-made : (P : Call Config Op → Ans Answer → Pages → Type 0)
      → ((dir : Dir) (e k : ℕ) → P (question (pending 0)) (told k) n.st
      → P (begin (slotted (SetEnabled dir e true))) (ended (Refused 19)) n.st)
      → P alone.event.call alone.answer (page.book_after alone n).1.st
      → P m.event.call m.answer (noted i m n).1.st
  as-made P stopped y =
      as-shared i m.event.call m.event.lent m.before (machine_of xs a) (outcome_of m) did n P stopped goes y

  after-made : AfterCall alone.event.call m.event.lent n alone.answer (view m.bytes) m.slots
      (page.book_after alone n).1.st
      → AfterCall m.event.call m.event.lent n m.answer (view m.bytes) m.slots (noted i m n).1.st
  after-made = as-made (λ c x t. AfterCall c m.event.lent n x (view m.bytes) m.slots t)
      (λ dir e k y. stopped-after dir e m.event.lent m.slots n (view m.bytes) k y)

  -- what was brought, and what is named
  learnt-same : (k : Known) → learnt alone.event.call alone.answer k ≡ learnt m.event.call m.answer k
  learnt-same k = as-made (λ c x t. learnt alone.event.call alone.answer k ≡ learnt c x k) (λ dir e j y. y) refl

  named-same : (k : Names) → under_way alone.event.call alone.answer k ≡ under_way m.event.call m.answer k
  named-same k =
      as-made (λ c x t. under_way alone.event.call alone.answer k ≡ under_way c x k) (λ dir e j y. y) refl

  length-made : (k : Known) → page.LengthIs alone n (learnt alone.event.call alone.answer k)
      → LengthIs i m n (learnt m.event.call m.answer k)
  length-made k = as-made (λ c x t. (e : ℕ) → Decides c n x e → (q : Packet)
      → (t.outs e).waiting ≡ (n.st.outs e).waiting ++ (q ∷ [])
      → length q.bytes ≡ length_at (learnt c x k).readings m.event.lent n.st e)
      (λ dir e j y f d. let p = d.continues in let z : ◌≡◌ {A = ℕ} 0 1 = cc in absurd (omega arith))

  others-made : (k : Names) → page.OthersStay alone n k → OthersStay i m n k
  others-made k = as-made (λ c x t. releasing x ≡ false → (d : Dir) (e : ℕ) → Away (call_names c k) d e
      → SamePage d e n.st t) (λ dir e j y r d f h. leaves d f)
    where
      leaves : (d : Dir) (e : ℕ) → SamePage d e n.st n.st
      leaves Out e = refl
      leaves In e = refl

  note-same : (k : Note) → after alone.event.call alone.answer n.st m.event.lent k
      ≡ after m.event.call m.answer n.st m.event.lent k
  note-same k = as-made (λ c x t. after alone.event.call alone.answer n.st m.event.lent k
      ≡ after c x n.st m.event.lent k) (λ dir e j y. y) refl

  above_same : (b : ℕ) → above alone.event.call alone.answer b ≡ above m.event.call m.answer b
  above_same b = as-made (λ c x t. above alone.event.call alone.answer b ≡ above c x b) (λ dir e j y. y) refl

  -- with another call and answer
  abbrev likewise : Call Config Op → Ans Answer → page.CallRecord
  likewise c x =
      record { event = record { call = c; lent = m.event.lent }; answer = x; bytes = m.bytes; slots = m.slots }

  arrival_made : (k : Note) → page.ArrivalIs alone n k → page.ArrivalIs (made_of m) n k
  arrival_made k = as-made (λ c x t. page.ArrivalIs (likewise c x) n k)
      (λ dir e j y f d. let p = d.continues in let z : ◌≡◌ {A = ℕ} 0 1 = cc in absurd (omega arith))

  missed_made : (k : Note) → page.NoneMissed alone n k → page.NoneMissed (made_of m) n k
  missed_made k = as-made (λ c x t. page.NoneMissed (likewise c x) n k)
      (λ dir e j y v r ws p. let z : ◌≡◌ {A = ℕ} 0 1 = cc in absurd (omega arith))

  load_made : (k : Known) → page.LoadLength alone n k → LoadLength i m n k
  load_made k = as-made (λ c x t. (e y v : ℕ) → 0 < e → c ≡ continue v → x ≡ handed (Write EpTLen e y)
      → LengthWritten (sends_to k.asked e) y (n.st.ins e) (t.ins e))
      (λ dir e j y f z v l p. let w : ◌≡◌ {A = ℕ} 0 1 = cc in absurd (omega arith))

  loads_made : (k : Heard) → page.LoadIs alone n k → LoadIs i m n k
  loads_made k = as-made (λ c x t. (e v : ℕ) → e < 16 → c ≡ continue v → in_interrupt n.under_way_lem ≡ true
      → Loads (hears v k) (values_of n.st e) e (last_in n.st e) (last_in t e) (loads_in k.known.asked x e))
      (λ dir e j y f v l p. let w : ◌≡◌ {A = ℕ} 0 1 = cc in absurd (omega arith))

  unsent_made : (k : Heard) → page.NoneUnsent alone n k → NoneUnsent i m n k
  unsent_made k = as-made (λ c x t. (e v r : ℕ) (ws : List ℕ) → e < 16 → c ≡ continue v → in_interrupt n.under_way_lem
      ≡ true
      → x ≡ ended (End r ws)
      → SentAll (hears v k) (values_of n.st e) e (last_in t e) t.kept.globals.sof_frame)
      (λ dir e j y f v r ws l p. let w : ◌≡◌ {A = ℕ} 0 1 = cc in absurd (omega arith))

  sorts_made : (f : Sorts)
      → ((d : Dir) (e : ℕ) → iso_of (page.book_after alone n).1.st d e
      ≡ sorts_after alone.event.call alone.answer n.st.kept.allocator f d e)
      → (d : Dir) (e : ℕ) → iso_of (noted i m n).1.st d e
      ≡ sorts_after m.event.call m.answer n.st.kept.allocator f d e
  sorts_made f = as-made (λ c x t. (d : Dir) (e : ℕ) → iso_of t d e ≡ sorts_after c x n.st.kept.allocator f d e)
      (λ dir e j y. y)

  sorts_same : (f : Sorts) → sorts_after alone.event.call alone.answer n.st.kept.allocator f
      ≡ sorts_after m.event.call m.answer n.st.kept.allocator f
  sorts_same f = as-made (λ c x t. sorts_after alone.event.call alone.answer n.st.kept.allocator f
      ≡ sorts_after c x n.st.kept.allocator f) (λ dir e j y. y) refl

  heard_same : (k : Heard) → hearing alone.event.call alone.answer n.st k
      ≡ hearing m.event.call m.answer n.st k
  heard_same k = as-made (λ c x t. hearing alone.event.call alone.answer n.st k ≡ hearing c x n.st k)
      (λ dir e j y. y) refl

  config_made : page.ConfigKept alone n → ConfigKept i m n
  config_made = as-made (λ c x t. (v : ℕ) → x ≡ handed (Write EpConfig 0 v) → t.kept.globals.ep_config ≡ v)
      (λ dir e j y v p. let w : ◌≡◌ {A = ℕ} 0 1 = cc in absurd (omega arith))

  order_made : (b : ℕ) → page.InOrder alone n b → page.InOrder (made_of m) n b
  order_made b = as-made (λ c x t. page.InOrder (likewise c x) n b)
      (λ dir e j y f d. let p = d.continues in let z : ◌≡◌ {A = ℕ} 0 1 = cc in absurd (omega arith))

-- ---- every list of calls

after-each : (i : ℕ) (ms : List MadeShared) (xs : List ℕ) (a : Buf) (n : Machine Answer Pages) → Calls i xs a n ms
    → NotedAll i xs a n ms → AgreedAll i n ms
    → page.AfterEach n (all_alone i xs a ms) → AfterEach i n ms
after-each i [] xs a n run goes k y = tt
after-each i (m ∷ ms) xs a n run goes k y = (
  record { call = after-made i xs a m n run.0 goes.0 y.0; answers = k.0.both.same; time = k.0.time },
  after-each i ms m.bytes m.slots (noted i m n).1 run.2 goes.2 k.1
      (subst (λ (z : Machine Answer Pages). page.AfterEach z (all_alone i m.bytes m.slots ms)) (sym goes.0)
      y.1),
)

-- the lengths with what was brought, the others with what is named
known-each : (i : ℕ) (ms : List MadeShared) (xs : List ℕ) (a : Buf) (n : Machine Answer Pages) → Calls i xs a n ms
    → NotedAll i xs a n ms
    → ((k : Known) → page.LengthsEach n k (all_alone i xs a ms) → LengthsEach i n k ms)
    × ((k : Names) → page.OthersEach n k (all_alone i xs a ms) → OthersEach i n k ms)
known-each i [] xs a n run goes = (λ k y. tt, λ k y. tt)
known-each i (m ∷ ms) xs a n run goes =
    let rest = known-each i ms m.bytes m.slots (noted i m n).1 run.2 goes.2 in (
      λ k y. (
        length-made i xs a m n run.0 goes.0 k y.0,
        rest.0 (learnt m.event.call m.answer k)
            (subst₂ (λ (z : Machine Answer Pages) (l : Known). page.LengthsEach z l
            (all_alone i m.bytes m.slots ms))
            (sym goes.0) (learnt-same i xs a m n run.0 goes.0 k) y.1),
      ),
      λ k y. (
        others-made i xs a m n run.0 goes.0 k y.0,
        rest.1 (under_way m.event.call m.answer k)
            (subst₂ (λ (z : Machine Answer Pages) (l : Names). page.OthersEach z l
            (all_alone i m.bytes m.slots ms))
            (sym goes.0) (named-same i xs a m n run.0 goes.0 k) y.1),
      ),
    )

-- the lengths that loads write, with what was handed out, and ep_config
writes-each : (i : ℕ) (ms : List MadeShared) (xs : List ℕ) (a : Buf) (n : Machine Answer Pages)
    → Calls i xs a n ms → NotedAll i xs a n ms
    → (k : Known) → page.WritesEach n k (all_alone i xs a ms) → WritesEach i n k ms
writes-each i [] xs a n run goes k y = tt
writes-each i (m ∷ ms) xs a n run goes k y = (
  load_made i xs a m n run.0 goes.0 k y.0,
  config_made i xs a m n run.0 goes.0 y.1,
  writes-each i ms m.bytes m.slots (noted i m n).1 run.2 goes.2 (learnt m.event.call m.answer k)
      (subst₂ (λ (z : Machine Answer Pages) (l : Known). page.WritesEach z l (all_alone i m.bytes m.slots ms))
      (sym goes.0) (learnt-same i xs a m n run.0 goes.0 k) y.2),
)

-- the loads, with what was brought
loads-each : (i : ℕ) (ms : List MadeShared) (xs : List ℕ) (a : Buf) (n : Machine Answer Pages)
    → Calls i xs a n ms → NotedAll i xs a n ms
    → (k : Heard) → page.LoadsEach n k (all_alone i xs a ms) → LoadsEach i n k ms
loads-each i [] xs a n run goes k y = tt
loads-each i (m ∷ ms) xs a n run goes k y = (
  loads_made i xs a m n run.0 goes.0 k y.0,
  unsent_made i xs a m n run.0 goes.0 k y.1,
  loads-each i ms m.bytes m.slots (noted i m n).1 run.2 goes.2
      (hearing m.event.call m.answer n.st k)
      (subst₂ (λ (z : Machine Answer Pages) (l : Heard). page.LoadsEach z l (all_alone i m.bytes m.slots ms))
      (sym goes.0) (heard_same i xs a m n run.0 goes.0 k) y.2),
)

-- which endpoints are isochronous, with what was allocated
sorts-each : (i : ℕ) (ms : List MadeShared) (xs : List ℕ) (a : Buf) (n : Machine Answer Pages)
    → Calls i xs a n ms → NotedAll i xs a n ms
    → (f : Sorts) → page.SortsEach n f (all_alone i xs a ms) → SortsEach i n f ms
sorts-each i [] xs a n run goes f y = tt
sorts-each i (m ∷ ms) xs a n run goes f y = (
  sorts_made i xs a m n run.0 goes.0 f y.0,
  sorts-each i ms m.bytes m.slots (noted i m n).1 run.2 goes.2
      (sorts_after m.event.call m.answer n.st.kept.allocator f)
      (subst₂ (λ (z : Machine Answer Pages) (g : Sorts). page.SortsEach z g (all_alone i m.bytes m.slots ms))
      (sym goes.0) (sorts_same i xs a m n run.0 goes.0 f) y.1),
)

-- the arrivals with what was brought and lent, their order with what was decided
arrivals-each : (i : ℕ) (ms : List MadeShared) (xs : List ℕ) (a : Buf) (n : Machine Answer Pages)
    → Calls i xs a n ms → NotedAll i xs a n ms
    → ((k : Note) → page.ArrivalsEach n k (all_alone i xs a ms) → ArrivalsEach i n k ms)
    × ((b : ℕ) → page.OrderEach n b (all_alone i xs a ms) → OrderEach i n b ms)
arrivals-each i [] xs a n run goes = (λ k y. tt, λ b y. tt)
arrivals-each i (m ∷ ms) xs a n run goes =
    let rest = arrivals-each i ms m.bytes m.slots (noted i m n).1 run.2 goes.2 in
    let later = all_alone i m.bytes m.slots ms in (
      λ k y. (
        arrival_made i xs a m n run.0 goes.0 k y.0,
        missed_made i xs a m n run.0 goes.0 k y.1,
        rest.0 (after m.event.call m.answer n.st m.event.lent k)
            (subst₂ (λ (z : Machine Answer Pages) (l : Note). page.ArrivalsEach z l later)
            (sym goes.0) (note-same i xs a m n run.0 goes.0 k) y.2),
      ),
      λ b y. (
        order_made i xs a m n run.0 goes.0 b y.0,
        rest.1 (above m.event.call m.answer b)
            (subst₂ (λ (z : Machine Answer Pages) (l : ℕ). page.OrderEach z l later)
            (sym goes.0) (above_same i xs a m n run.0 goes.0 b) y.1),
      ),
    )

pub shared-demand-3 : SharedDemand3
shared-demand-3 i c b row xs a n first is-start ms run =
    let goes = all_noted i c b row xs a n first is-start ms run in
    let alone = demand-3 c b row xs a n (made_alone i xs a first) (start-alone i c b xs a first is-start)
    (all_alone i first.bytes first.slots ms) (code-alone i c b row xs a n first is-start ms run) in
    let known = known-each i (first ∷ ms) xs a n run goes in
    let arriving = arrivals-each i (first ∷ ms) xs a n run goes in (
      after-each i (first ∷ ms) xs a n run goes (agreed-all i c b row xs a n first is-start ms run) alone.0,
      λ k. known.0 k (alone.1 k),
      λ k. known.1 k (alone.2 k),
      λ k. arriving.0 k (alone.3 k),
      λ b. arriving.1 b (alone.4 b),
      λ k. writes-each i (first ∷ ms) xs a n run goes k (alone.5 k),
      λ k. loads-each i (first ∷ ms) xs a n run goes k (alone.7 k),
      λ f. sorts-each i (first ∷ ms) xs a n run goes f (alone.8 f),
    )
