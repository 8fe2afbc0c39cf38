-- Over lists of calls: what an observer claims holds after each, from the law of each call
use Rattle.std.specs.Prelude.{Bool, true, false, not, cond, List, [], ◌∷◌, ◌++◌, ◌≡◌, refl, ℕ, zero, suc, ◌*◌, eqb, length}
use Rattle.std.proofs.Common.{ap, subst, sym, ◌∙◌, eqb-true}
use Rattle.regs.specs.declared.Access.{Access}
use Rattle.state.specs.Driver.{Driver}
use Rattle.script.specs.Tree as tree
use Rattle.script.specs.Script.{run}
use Rattle.script.specs.Every as ways
use Rattle.script.specs.Answers.{Answer, Refused}
use Rattle.script.specs.Calls.{Config, Op, interrupt, slotted, other, aside, Aside, aside_code, code, calls, start_row}
use Rattle.script.specs.Machine as machine
use Rattle.script.specs.Machine.{Buf, Call, start, begin, continue, question, Event, Ans, ended, Awaits, Pending, idle}
use Rattle.script.specs.Machine.{busy}
use Rattle.script.specs.Machine.{Machine, misfit, during_interrupt, begun, continued, started, stay}
use Rattle.script_ops.specs.Rings.{St}
use Rattle.script_ops.specs.Concrete.{concrete}
use Rattle.machine.specs.Suspended.{driver_of, drive, halts_as}
use Rattle.proof_book.specs.Always.{after}
use Rattle.proof_book.specs.Sorting.{Sorting}
use Rattle.proof_book.proofs.SortingLaws.{after-sorting}
use Rattle.proof_wake_ups.specs.Rooms.{Few, Roomy}
use Rattle.proof_wake_ups.proofs.RoomsLaws.{rooms, start-rooms}
use Rattle.proof_usb20.specs.ExemptLaws.{differ}
use Rattle.proof_usb20.specs.Watch as watch
use Rattle.proof_usb20.specs.Watch.{Along, at_end, at_ask, Fitted, AtFirst, Spared, SparedAfter}
use Rattle.proof_usb20.specs.Observer.{Observer, Under, at_rest, doing, starting, serves, Watched, watched}
use Rattle.proof_usb20.specs.Observer.{started_by, begins_by, noted, ClaimBegun, Claim, Standing}
use Rattle.proof_usb20.specs.Observer.{All}

-- a chip that may bring anything
abbrev pub any_chip : ways.Chip
any_chip = record { Holds = Unit {0}; Brings = λ _ _ _. Unit {0}; after = λ _ _. tt }

-- `Ok` of each access of an outcome
abbrev pub Only : (Access → Type 0) → tree.Out St Answer → Type 0
Only Ok out = ways.All any_chip (λ (s t : St). Unit {0}) Ok tt out

module _ (O : Observer) where
  -- between two accesses: calls that pass during an interrupt, and stores in the slots
  abbrev pub Between : St → St → Type 0
  Between s t = (O.view t.0 ≡ O.view s.0) × Sorting t.0 × (t.0.wakes ≡ s.0.wakes) × Fitted t

  abbrev pub Sees : {A : Type 0} → (O.Log → Access → Type 0) → (O.Log → A → St → Type 0) → O.Log → tree.Out St A
      → Type 0
  Sees Ok P w out = Along (λ w q v s. O.saw w q v s.1) (λ _ _ _. Unit {0}) Between Ok P w out

  -- `P` at each end, whatever is read
  abbrev pub Ups : (St → Type 0) → tree.Out St Answer → Type 0
  Ups P out = Along {L = Unit {0}} (λ _ _ _ _. tt) (λ _ _ _. Unit {0}) Between (λ _ _. Unit {0}) (λ _ _ s. P s) tt out

  -- what each call keeps, and what follows from it
  pub record Laws (R : O.Log → O.View → Type 0) : Type 0 where
    pub stands : (w : O.Log) (x : O.View) → R w x → O.Stands w x
    pub call : (o : Op) (w : O.Log) (s : St) → R w (O.view s.0) → Sorting s.0 → (calls.slots o ≡ true
        → Fitted s)
        → Sees (O.Allowed o) (λ x a t. R (O.closes o a x) (O.view t.0) × (Few (ended a)
        → O.EndsByReason o a x)) (O.opens o s.1 w) (run concrete (code o) s)
    pub asks : (o : Op) (s : St) → Only (O.Asks o) (run concrete (code o) s)
    pub besides : (o : Aside) (d : Driver) (b : Buf) (a : Answer) (t : St) → Sorting d
        → run concrete (aside_code o) (d, b) ≡ tree.ends a t → (O.view t.0 ≡ O.view d) × (t.0.wakes ≡ d.wakes)
    pub new : (c : Config) (b : Buf)
        → Ups (λ s. R O.before (O.view s.0)) (run concrete (calls.starts c) (driver_of.fresh c, b))
    -- row 1, of a call that brings the slots, leaves all as it was
    pub unlent : (o : Op) → calls.slots o ≡ true → (b : Buf) (w : O.Log) (x : O.View) → R w x
        → R (O.closes o (Refused 1) (O.opens o b w)) x
    pub fair_1 : (o : Op) → calls.slots o ≡ true → (w : O.Log) → O.EndsByReason o (Refused 1) w
    pub loads : (o : Op) (w : O.Log) (s : St) → R w (O.view s.0) → (calls.slots o ≡ true → Fitted s)
        → AtFirst (O.Loads o (O.opens o s.1 w)) (run concrete (code o) s)
    pub spares : (o : Op) (s : St) → SparedAfter (O.Spares o) (run concrete (code o) s)

  module _ {R : O.Log → O.View → Type 0} (L : Laws R) where
    abbrev Ends : Op → O.Log → Answer → St → Type 0
    Ends o x a t = R (O.closes o a x) (O.view t.0) × (Few (ended a) → O.EndsByReason o a x)

    abbrev BetweenFrom : Driver → St → Type 0
    BetweenFrom d t = (O.view t.0 ≡ O.view d) × Sorting t.0 × (t.0.wakes ≡ d.wakes) × Fitted t

    abbrev Goes : Op → Access → Buf → O.Log → (ℕ → St → tree.Out St Answer) → Driver → Type 0
    Goes o q l w k d = (v : ℕ) (t : St) → Unit {0} → BetweenFrom d t
        → Sees (O.Allowed o) (Ends o) (O.saw w q v l) (k v t)

    abbrev Up : (ℕ → St → tree.Out St Answer) → Driver → Type 0
    Up k d = (v : ℕ) (t : St) → BetweenFrom d t → Ups (λ s. R O.before (O.view s.0)) (k v t)

    -- the state fits the log where nothing is under way; else what is left to run does
    abbrev J : Pending Answer Driver → Driver → O.Log → Under → Type 0
    J idle d w at_rest = R w (O.view d)
    J idle d w (doing o q l) = ⊥
    J idle d w starting = ⊥
    J (busy i a k) d w at_rest = ⊥
    J (busy i a k) d w (doing o q l) = Goes o q l w k d × ((v : ℕ) (t : St) → Only (O.Asks o) (k v t))
        × ((v : ℕ) (t : St) → Spared (O.Spares o) t.1 (k v t))
    J (busy i a k) d w starting = (w ≡ O.before) × Up k d

    record ObserverStep (c : Call Config Op) (b : Buf) (y : Ans Answer × Machine Answer Driver) (x : Watched O) : Type
        0 where
      claim : Claim O c b y.1.buf y.0 (serves y.1.under_way_lem) x
      standing : let z = noted O c b y.1.buf y.0 (serves y.1.under_way_lem) x in
          Standing O y.1.st z.log z.under
      next : let z = noted O c b y.1.buf y.0 (serves y.1.under_way_lem) x in
          J y.1.under_way_lem y.1.st z.log z.under

    -- of an answer that is not too long
    abbrev Steps : Call Config Op → Buf → Ans Answer × Machine Answer Driver → Watched O → Type 0
    Steps c b y x = Few y.0 → ObserverStep c b y x

    standing_of : (y : Pending Answer Driver) (d : Driver) (w : O.Log) (u : Under) → J y d w u → Standing O d w u
    standing_of idle d w at_rest j = L.stands w (O.view d) j
    standing_of (busy i a k) d w (doing o q l) j = tt
    standing_of (busy i a k) d w starting j = tt
    standing_of idle d w (doing o q l) j = elim j [ ]
    standing_of idle d w starting j = elim j [ ]
    standing_of (busy i a k) d w at_rest j = elim j [ ]

    -- an operation begins, or goes on: where it stops
    begins : (o : Op) (i : Bool) (b : Buf) (w : O.Log) {out : tree.Out St Answer}
        → Sees (O.Allowed o) (Ends o) (O.opens o b w) out → Only (O.Asks o) out
        → AtFirst (O.Loads o (O.opens o b w)) out → SparedAfter (O.Spares o) out
        → Steps (begin o) b (halts_as i out) (watched O w at_rest)
    begins o i b w (at_end {a = a} {s = s} p) m f e few
        = record { claim = (p.1 few, tt); standing = L.stands _ (O.view s.0) p.0; next = p.0 }
    begins o i b w (at_ask ok k) (ways.at_ask a m) (watch.handed f) (watch.then e) few = record {
      claim = ((ok, a), f);
      standing = tt;
      next = (λ v t r h. k v t r h, λ v t. m v t tt tt, e);
    }

    goes : (o : Op) (i : Bool) (v : ℕ) (b : Buf) (w : O.Log) (q : Access) (l : Buf) {out : tree.Out St Answer}
        → Sees (O.Allowed o) (Ends o) (O.saw w q v l) out → Only (O.Asks o) out → Spared (O.Spares o) b out
        → Steps (continue v) b (halts_as i out) (watched O w (doing o q l))
    goes o i v b w q l (at_end {a = a} {s = s} p) m (watch.stops e) few
        = record { claim = (p.1 few, e); standing = L.stands _ (O.view s.0) p.0; next = p.0 }
    goes o i v b w q l (at_ask ok k) (ways.at_ask a m) (watch.goes e f) few = record {
      claim = ((ok, a), e);
      standing = tt;
      next = (λ v t r h. k v t r h, λ v t. m v t tt tt, f);
    }

    -- a start-up's own script
    starts : (i : Bool) (v : ℕ) (b : Buf) (w : O.Log) → w ≡ O.before → {out : tree.Out St Answer}
        → Ups (λ s. R O.before (O.view s.0)) out
        → ObserverStep (continue v) b (halts_as i out) (watched O w starting)
    starts i v b w e (at_end {s = s} f) = let r = subst (λ (x : O.Log). R x (O.view s.0)) (sym e) f in
        record { claim = tt; standing = L.stands w (O.view s.0) r; next = r }
    starts i v b w e (at_ask _ k) = record { claim = tt; standing = tt; next = (e, λ v t h. k v t tt h) }

    started_up : (c : Config) (b : Buf) (n : ℕ) → start_row c b ≡ n → (m : Machine Answer Driver) (x : Watched O)
        → J m.under_way_lem m.st x.log x.under
        → ObserverStep (start c) b (started calls driver_of (λ s. s) c n m b) x
    started_up c b zero h m x j = halted (L.new c b)
      where
        halted : {out : tree.Out St Answer} → Ups (λ s. R O.before (O.view s.0)) out
            → ObserverStep (start c) b (halts_as false out) x
        halted (at_end {s = s} f) = record {
          claim = tt;
          standing
              = rw h (L.stands O.before (O.view s.0) f);
          next = rw h f;
        }
        halted (at_ask _ k) = record { claim = tt; standing = rw h tt; next = rw h (refl, λ v t h. k v t tt h) }
    started_up c b (suc n) h m x j = record {
      claim = tt;
      standing
          = rw h (standing_of m.under_way_lem m.st x.log x.under j);
      next = rw h j;
    }

    -- calls between two accesses of an operation: what is left to run fits still
    still_J : (i : Bool) (a : Awaits) (k : ℕ → St → tree.Out St Answer) (d d' : Driver) (w : O.Log) (u : Under)
        → (O.view d' ≡ O.view d) × (d'.wakes ≡ d.wakes) → J (busy i a k) d w u → J (busy i a k) d' w u
    still_J i a k d d' w (doing o q l) e j = (
      λ v t r h. j.0 v t r (h.0 ∙ e.0, h.1, h.2 ∙ e.1, h.3),
      j.1,
      j.2,
    )
    still_J i a k d d' w starting e j = (j.0, λ v t h. j.1 v t (h.0 ∙ e.0, h.1, h.2 ∙ e.1, h.3))
    still_J i a k d d' w at_rest e j = elim j [ ]

    unclaimed : (o : Op) (b l : Buf) (a : Ans Answer) (w : O.Log) (u : Under) (i : Bool) (y : Awaits) (k : ℕ → St
        → tree.Out St Answer) (d : Driver)
        → J (busy i y k) d w u → ClaimBegun O o b l a w u
    unclaimed o b l a w (doing p q x) i y k d j = tt
    unclaimed o b l a w starting i y k d j = tt
    unclaimed o b l a w at_rest i y k d j = elim j [ ]

    -- the log stays where an operation is under way
    same_begun : (o : Op) (b l : Buf) (a : Ans Answer) (w : O.Log) (u : Under) (i : Bool) (y : Awaits) (k : ℕ → St
        → tree.Out St Answer) (d : Driver)
        → J (busy i y k) d w u → begins_by O o b l a w u ≡ watched O w u
    same_begun o b l a w (doing p q x) i y k d j = refl
    same_begun o b l a w starting i y k d j = refl
    same_begun o b l a w at_rest i y k d j = elim j [ ]

    module _ (o : Op) (b : Buf) (i : Bool) (y : Awaits) (k : ℕ → St → tree.Out St Answer) (x : Watched O) where
      stepped : (a : Ans Answer) (d : Driver) (l : Buf) → J (busy i y k) d x.log x.under
          → ObserverStep (begin o) b (a, record { under_way_lem = busy i y k; st = d; buf = l }) x
      stepped a d l j = record {
        claim = unclaimed o b l a x.log x.under i y k d j;
        standing = rw (same_begun o b l a x.log x.under i y k d j) (standing_of (busy i y k) d x.log
            x.under j);
        next = rw (same_begun o b l a x.log x.under i y k d j) j;
      }

      passing : (d : Driver) (l : Buf) (f : Aside) → Sorting d → J (busy i y k) d x.log x.under
          → (out : tree.Out St Answer) → run concrete (aside_code f) (d, b) ≡ out
          → ObserverStep (begin o) b (during_interrupt calls driver_of
          (record { under_way_lem = busy i y k; st = d; buf = b }) out) x
      passing d l f z j (tree.ends a t) h = stepped (ended a) t.0 t.1
          (still_J i y k d t.0 x.log x.under (L.besides f d b a t z h) j)
      passing d l f z j (tree.asks q t g) h = stepped (ended (Refused 3)) d b j

    during : (o : Op) (b : Buf) (i : Bool) (y : Awaits) (k : ℕ → St → tree.Out St Answer) (d : Driver) (l : Buf)
        (x : Watched O)
        → Sorting d → J (busy i y k) d x.log x.under
        → ObserverStep (begin o) b (begun calls driver_of (λ s. s) o (record { under_way_lem = busy i y k; st = d; buf = l })
        (busy i y k) b) x
    during interrupt b true y k d l x z j = stepped interrupt b true y k x (ended (Refused 3)) d b j
    during interrupt b false y k d l x z j = stepped interrupt b false y k x (ended (Refused 3)) d b j
    during (slotted o) b true y k d l x z j = stepped (slotted o) b true y k x (ended (Refused 3)) d b j
    during (slotted o) b false y k d l x z j = stepped (slotted o) b false y k x (ended (Refused 3)) d b j
    during (other o) b true y k d l x z j = stepped (other o) b true y k x (ended (Refused 3)) d b j
    during (other o) b false y k d l x z j = stepped (other o) b false y k x (ended (Refused 3)) d b j
    during (aside o) b true y k d l x z j = passing (aside o) b true y k x d l o z j (run concrete (aside_code o) (d, b))
        refl
    during (aside o) b false y k d l x z j = stepped (aside o) b false y k x (ended (Refused 3)) d b j

    brought_so : (s m : Bool) → cond s m false ≡ true → s ≡ true
    brought_so true m h = refl
    brought_so false m h = h

    fits_by : (d : Driver) (b : Buf) → misfit calls driver_of d b ≡ false → Fitted (d, b)
    fits_by d b h = by (eqb (length b) (d.allocator.count * d.allocator.size)) refl h
      where
        by : (t : Bool) → eqb (length b) (d.allocator.count * d.allocator.size) ≡ t → not t ≡ false → Fitted (d, b)
        by true q z = eqb-true (length b) (d.allocator.count * d.allocator.size) q
        by false q z = differ (sym z)

    fits_so : (s : Bool) (d : Driver) (b : Buf) → cond s (misfit calls driver_of d b) false ≡ false → s ≡ true
        → Fitted (d, b)
    fits_so true d b h k = fits_by d b h
    fits_so false d b h k = differ k

    -- at rest, with row 1
    afresh : (o : Op) (b : Buf) (g : Bool) → (g ≡ true → calls.slots o ≡ true) → (d : Driver) (l : Buf) (w : O.Log)
        → (g ≡ false → calls.slots o ≡ true → Fitted (d, b)) → R w (O.view d)
        → Sorting d
        → Steps (begin o) b
        (cond g (stay calls driver_of 1 (record { under_way_lem = idle; st = d; buf = l }))
        (begun calls driver_of (λ s. s) o (record { under_way_lem = idle; st = d; buf = l }) idle b)) (watched O w at_rest)
    afresh o b true h d l w m r z few = let n = L.unlent o (h refl) b w (O.view d) r in
        record { claim = (L.fair_1 o (h refl) (O.opens o b w), tt); standing = L.stands _ (O.view d) n; next = n }
    afresh o b false h d l w m r z few = begins o (calls.irq o) b w (L.call o w (d, b) r z (m refl)) (L.asks o
        (d, b)) (L.loads o w (d, b) r (m refl)) (L.spares o (d, b)) few

    -- row 1 of a call in the midst of an operation
    row_1 : (o : Op) (b : Buf) (g : Bool) (i : Bool) (y : Awaits) (k : ℕ → St → tree.Out St Answer) (d : Driver)
        (l : Buf) (x : Watched O)
        → Sorting d → J (busy i y k) d x.log x.under
        → ObserverStep (begin o) b
        (cond g (stay calls driver_of 1 (record { under_way_lem = busy i y k; st = d; buf = l }))
        (begun calls driver_of (λ s. s) o (record { under_way_lem = busy i y k; st = d; buf = l }) (busy i y k) b)) x
    row_1 o b true i y k d l x z j = stepped o b i y k x (ended (Refused 1)) d l j
    row_1 o b false i y k d l x z j = during o b i y k d l x z j

    -- a continue
    stays : (v : ℕ) (b : Buf) (n : ℕ) (i : Bool) (y : Awaits) (k : ℕ → St → tree.Out St Answer) (d : Driver) (l : Buf)
        (w : O.Log) (u : Under)
        → J (busy i y k) d w u
        → ObserverStep (continue v) b (ended (Refused n), record { under_way_lem = busy i y k; st = d; buf = l })
        (watched O w u)
    stays v b n i y k d l w (doing o q x) j = record { claim = tt; standing = tt; next = j }
    stays v b n i y k d l w starting j = record { claim = tt; standing = tt; next = j }
    stays v b n i y k d l w at_rest j = elim j [ ]

    proceeds : (v : ℕ) (b : Buf) (i : Bool) (y : Awaits) (k : ℕ → St → tree.Out St Answer) (d : Driver) (w : O.Log)
        (u : Under)
        → J (busy i y k) d w u → Sorting d → Fitted (d, b)
        → Steps (continue v) b (halts_as i (k v (d, b))) (watched O w u)
    proceeds v b i y k d w (doing o q l) j z f few = goes o i v b w q l (j.0 v (d, b) tt (refl, z, refl, f)) (j.1 v
        (d, b)) (j.2 v (d, b)) few
    proceeds v b i y k d w starting j z f few = starts i v b w j.0 (j.1 v (d, b) (refl, z, refl, f))
    proceeds v b i y k d w at_rest j z f few = elim j [ ]

    row_16 : (v : ℕ) (b : Buf) (g : Bool) (i : Bool) (y : Awaits) (k : ℕ → St → tree.Out St Answer) (d : Driver)
        (w : O.Log) (u : Under)
        → J (busy i y k) d w u → Sorting d → Fitted (d, b)
        → Steps (continue v) b (cond g (stay calls driver_of 16 (record { under_way_lem = busy i y k; st = d; buf = b }))
        (halts_as i
        (k v (d, b)))) (watched O w u)
    row_16 v b true i y k d w u j z f few = stays v b 16 i y k d b w u j
    row_16 v b false i y k d w u j z f few = proceeds v b i y k d w u j z f few

    continues : (v : ℕ) (b : Buf) (g : Bool) (y : Pending Answer Driver) (d : Driver) (l : Buf) (w : O.Log) (u : Under)
        → J y d w u → Sorting d → (g ≡ false → Fitted (d, b))
        → Steps (continue v) b (cond g (stay calls driver_of 1 (record { under_way_lem = y; st = d; buf = l }))
        (continued calls driver_of (λ s. s) v (record { under_way_lem = y; st = d; buf = l }) y b)) (watched O w u)
    continues v b true idle d l w at_rest j z f few = record {
      claim = tt;
      standing = L.stands w
          (O.view d) j;
      next = j;
    }
    continues v b false idle d l w at_rest j z f few = record {
      claim = tt;
      standing = L.stands w
          (O.view d) j;
      next = j;
    }
    continues v b true (busy i y k) d l w u j z f few = stays v b 1 i y k d l w u j
    continues v b false (busy i y k) d l w u j z f few = row_16 v b (machine.over calls y v) i y k d w u j z (f refl)
        few
    continues v b false idle d l w (doing _ _ _) j z f few = elim j [ ]
    continues v b false idle d l w starting j z f few = elim j [ ]
    continues v b true idle d l w (doing _ _ _) j z f few = elim j [ ]
    continues v b true idle d l w starting j z f few = elim j [ ]

    -- one call
    step : (c : Call Config Op) (b : Buf) (m : Machine Answer Driver) (x : Watched O)
        → J m.under_way_lem m.st x.log x.under → Sorting m.st
        → Steps c b (drive c m b) x
    step (start c) b m x j z few = started_up c b (start_row c b) refl m x j
    step (begin o) b m x j z few = by m.under_way_lem x.under j few
      where
        g : Bool
        g = cond (calls.slots o) (misfit calls driver_of m.st b) false

        by : (y : Pending Answer Driver) (u : Under) → J y m.st x.log u
            → Steps (begin o) b
            (cond g (stay calls driver_of 1 (record { under_way_lem = y; st = m.st; buf = m.buf }))
            (begun calls driver_of (λ s. s) o (record { under_way_lem = y; st = m.st; buf = m.buf }) y b))
            (watched O x.log u)
        by idle at_rest i few = afresh o b g (brought_so (calls.slots o) (misfit calls driver_of m.st b)) m.st
            m.buf x.log (fits_so (calls.slots o) m.st b) i z few
        by (busy h a k) u i few = row_1 o b g h a k m.st m.buf (watched O x.log u) z i
        by idle (doing _ _ _) i few = elim i [ ]
        by idle starting i few = elim i [ ]
    step (continue v) b m x j z few = continues v b (misfit calls driver_of m.st b) m.under_way_lem m.st m.buf
        x.log
        x.under j z (fits_by m.st b) few
    step (question q) b m x j z few = record {
      claim = tt;
      standing = standing_of m.under_way_lem m.st x.log
          x.under j;
      next = j;
    }

    -- the endpoints keep their sorts after each call
    abbrev Sorted : List (Event Config Op) → Machine Answer Driver → Type 0
    Sorted es m = (ds fs : List (Event Config Op)) → es ≡ ds ++ fs → Sorting (after calls driver_of ds m).st

    each : (es : List (Event Config Op)) (m : Machine Answer Driver) (x : Watched O)
        → J m.under_way_lem m.st x.log x.under → Sorted es m → Roomy m
        → All O es m x
    each [] m x j z k = tt
    each (e ∷ es) m x j z k =
        let y = drive e.call m e.lent in
        let f = rooms e.call k e.lent in
        let a = step e.call e.lent m x j (z [] (e ∷ es) refl) f.answer in (
          a.claim,
          a.standing,
          each es y.1 (noted O e.call e.lent y.1.buf y.0 (serves y.1.under_way_lem) x) a.next
              (λ ds fs h. z (e ∷ ds) fs (ap (e ∷◌) h)) f.machine,
        )

    fresh : {out : tree.Out St Answer} → Ups (λ s. R O.before (O.view s.0)) out
        → let y = halts_as false out in J y.1.under_way_lem y.1.st (started_by O y.0).log
        (started_by O y.0).under
    fresh (at_end f) = f
    fresh (at_ask _ k) = (refl, λ v t h. k v t tt h)

    -- EVERY list of calls that follows an accepted start-up, from whatever was before
    pub from_start : (c : Config) (b : Buf) → start_row c b ≡ zero
        → (es : List (Event Config Op)) (m : Machine Answer Driver)
        → let y = started calls driver_of (λ s. s) c zero m b in
        All O es y.1 (started_by O y.0)
    from_start c b h es m =
        let y = started calls driver_of (λ s. s) c zero m b in
        each es y.1 (started_by O y.0) (fresh (L.new c b))
        (λ ds fs e. subst (λ (n : ℕ). Sorting (after calls driver_of ds (started calls driver_of
        (λ s. s) c n m b).1).st) h (after-sorting c b h ds m))
        (subst (λ (n : ℕ). Roomy (started calls driver_of (λ s. s) c n m b).1) h (start-rooms c b h m).machine)
