-- A store keeps what Sound.antt says; what is on a card in which a store was cut.
use Rattle.std.specs.Prelude.{◌≡◌, refl, Bool, true, false, cond, List, [], ◌∷◌, ◌++◌, ℕ, ◌+◌, ◌-◌, ◌≤◌, ◌<◌, ltb, length}
use Rattle.std.proofs.Math.Path.{sym, ap, subst}
use Rattle.std.proofs.Common.{◌∙◌, append_assoc, append-nil, ltb-true, eq-eqb, ne_eqb}
use Rattle.std.proofs.lemmas.Bool.{false≢true}
use native.Mathlib.Omega.{arith}
use Rattle.std.proofs.Math.Decide.{ℕ_discrete, dec_lt}
use Rattle.card.specs.Packet.{Packet}
use Rattle.card.specs.Written.{block_of}
use Rattle.card.specs.Streams.{block_at}
use Rattle.recorder.specs.declared.recorder.Recorder.{Recorder}
use Rattle.recorder.specs.RingLaws.{slot-long}
use Rattle.recorder.specs.Recording.{ring_in, stored_of}
use Rattle.recorder.specs.RecordingLaws.{stored-none, stored_last, stored_one}
use Rattle.recorder.specs.Flush.{put_block, OnCard}
use Rattle.recorder.proofs.FlushLaws.{put-long, put_same, put_other, block_settled}
use Rattle.recorder.specs.Survives.{Held, store_of, blocks_of, store, stepped, last_block_of, Book, first_left}
use Rattle.recorder.specs.Survives.{one_stored, noted, Front}
use Rattle.recorder.specs.Sound.{Flushing, Sound}
use Rattle.recorder.proofs.GrownLaws.{all_snoc}
use Rattle.recorder.proofs.CallsLaws.{first-old, first-new, held_of, low_first, number_is, later-ring}

-- ---- a store

place-as : (h : Held) (b : Book) → Sound h b → (b.left ≡ 0 → ⊥) → (store_of h).place ≡ first_left b + b.left - 1
place-as h b s z =
    let f = s.flush z in
    omega (arith, s.left, s.from, f.few, s.written.low, s.written.high, low_first h b s)

some_left : (n : ℕ) → (n ≡ 0 → ⊥) → 0 < n
some_left n a = elim (ℕ_discrete n 0) [
  | yes z ↦ absurd (a z)
  | no z ↦ omega arith
]

-- a block that the packets stored for good fill is as it is in the stream of all packets
settled_same : (kept all : List Packet) (end next : Packet) (k : ℕ) → Front kept all → k < last_block_of kept
    → block_of (kept ++ (end ∷ [])) k ≡ block_of (all ++ (next ∷ [])) k
settled_same kept all end next k f l =
    block_settled kept (end ∷ []) k (omega arith)
    ∙ sym (ap (λ (q : List Packet). block_of (q ++ (next ∷ [])) k) f.1
    ∙ ap (λ (q : List Packet). block_of q k) (append_assoc kept f.0 (next ∷ []))
    ∙ block_settled kept (f.0 ++ (next ∷ [])) k (omega arith))

-- blocks below the first that is left: a survey has begun, and they are on the card
below-same : (h : Held) (b : Book) → Sound h b → (k : ℕ) → k < first_left b
    → block_at h.card k ≡ block_of (b.all ++ (b.next ∷ [])) k
below-same h b s k l = go b.fresh refl
  where
    go : (t : Bool) → b.fresh ≡ t → block_at h.card k ≡ block_of (b.all ++ (b.next ∷ [])) k
    go true e = absurd (omega (arith, first-new b e))
    go false e =
        let at = first-old b e in
        (s.on (s.front e).0).written k (omega arith) ∙ settled_same b.kept b.all b.end b.next k
        (s.front e).1 (omega arith)

module _ (h : Held) (b : Book) (s : Sound h b) (some : b.left ≡ 0 → ⊥) where
  abbrev place : ℕ
  place = (store_of h).place

  abbrev first : ℕ
  first = first_left b

  abbrev last : ℕ
  last = last_block_of b.all

  abbrev stream_block : ℕ → List ℕ
  stream_block k = block_of (b.all ++ (b.next ∷ [])) k

  pub flushing : Flushing h b
  flushing = s.flush some

  pub at_place : place ≡ first + b.left - 1
  at_place = place-as h b s some

  positive : 0 < b.left
  positive = some_left b.left some

  -- two blocks or more are left only of packets behind a survey's
  pub not-fresh : (b.left ≡ 1 → ⊥) → b.fresh ≡ false
  not-fresh n = go b.fresh refl
    where
      go : (t : Bool) → b.fresh ≡ t → b.fresh ≡ false
      go true e = absurd (n (flushing.once e).0)
      go false e = e

  module _ (inside : place < blocks_of h.card) (torn : List ℕ) (long : length torn ≡ 512) where
    abbrev u : List ℕ
    u = put_block h.card place torn

    pub u-long : length u ≡ length h.card
    u-long = put-long h.card place torn inside long

    pub u_same : block_at u place ≡ torn
    u_same = put_same h.card place torn inside long

    u-other : (k : ℕ) → (place ≡ k → ⊥) → k < blocks_of h.card → block_at u k ≡ block_at h.card k
    u-other k n l = put_other h.card place k torn inside l long n

    -- the end's block is on the card
    pub last-inside : b.left ≡ 1 → last < blocks_of h.card
    last-inside one = elim (dec_lt first last) [
      | yes z ↦ flushing.inside (omega arith)
      | no z ↦ omega (arith, at_place, s.written.low)
    ]

    -- until the last of them the packets stored for good stay on the card, with their end
    pub still-on : (b.left ≡ 1 → ⊥) → b.begun ≡ true → OnCard u b.kept b.end
    still-on n e =
        let on = s.on e in
        let at = first-old b (not-fresh n) in
        let more : 1 < b.left = two b.left positive n in
        record {
          whole = omega (arith, u-long, s.whole);
          fine = on.fine;
          inside = omega (arith, u-long, on.inside);
          short = on.short;
          fits = on.fits;
          written = λ k l. u-other k (λ z. omega (arith, at_place)) (omega (arith, on.inside)) ∙ on.written k l;
        }
      where
        two : (x : ℕ) → 0 < x → (x ≡ 1 → ⊥) → 1 < x
        two x l a = elim (ℕ_discrete x 1) [
          | yes z ↦ absurd (a z)
          | no z ↦ omega arith
        ]

    -- in the last of them all other blocks are as in the stream of all packets
    pub others_are : b.left ≡ 1 → (k : ℕ) → (place ≡ k → ⊥) → k ≤ last → block_at u k ≡ stream_block k
    others_are one k n l = u-other k n (omega (arith, last-inside one)) ∙ elim (dec_lt k first) [
      | yes z ↦ below-same h b s k z
      | no z ↦ flushing.stored k (above (omega arith) (omega (arith, at_place)) n) l
    ]
      where
        above : first ≤ k → place ≡ first → (place ≡ k → ⊥) → first + b.left ≤ k
        above m e a = elim (ℕ_discrete k first) [
          | yes z ↦ absurd (a (e ∙ sym z))
          | no z ↦ omega arith
        ]

  -- the block that is asked for is the stream's
  pub asked : (store_of h).block ≡ stream_block place
  asked = flushing.ready place (omega (arith, at_place, positive))
      (omega (arith, at_place, positive, flushing.few, s.written.low))

  block_long : length (store_of h).block ≡ 512
  block_long = slot-long h.room place s.written.ring.long

  -- all packets are stored
  all_on : (inside : place < blocks_of h.card) → b.left ≡ 1
      → OnCard (put_block h.card place (store_of h).block) b.all b.next
  all_on inside one = record {
    whole = omega (arith, u-long inside (store_of h).block block_long, s.whole);
    fine = all_snoc s.written.fine flushing.fine;
    inside = omega (
      arith,
      u-long inside (store_of h).block block_long,
      last-inside inside
          (store_of h).block block_long one,
    );
    short = flushing.short;
    fits = s.written.fits;
    written = λ k l. elim (ℕ_discrete place k) [
      | yes z ↦ subst (λ (x : ℕ). block_at (put_block h.card place (store_of h).block) x ≡ stream_block x) z
          (u_same inside (store_of h).block block_long ∙ asked)
      | no z ↦ others_are inside (store_of h).block block_long one k z l
    ];
  }

  -- the last block is stored
  last_stored : (inside : place < blocks_of h.card) → b.left ≡ 1
      → Sound (held_of (stored_of h.recorder) h.room (put_block h.card place (store_of h).block)) (one_stored b)
  unfolding one_stored
  last_stored inside one =
      let r = h.recorder in
      let same = stored_last h.recorder (s.left ∙ one) in
      let n : h.recorder.number ≡ last_block_of b.all =
      number_is b.all (ring_in h.recorder h.room) (first_left b) s.written (low_first h b s) in
      rw (eq-eqb b.left 1 one)
      (subst (λ (x : Recorder). Sound (held_of x h.room (put_block h.card place (store_of h).block))
      (record {
        begun = true;
        fresh = false;
        survey = b.survey;
        kept = b.all;
        end = b.next;
        all = b.all;
        next =
            b.next;
        left = 0;
      })) same
      (record {
        whole = omega (arith, u-long inside (store_of h).block block_long, s.whole);
        small = omega (arith, u-long inside (store_of h).block block_long, s.small);
        left = refl;
        survey = s.survey;
        from = n;
        written = record {
          ring = later-ring b.all (ring_in h.recorder h.room) (first_left b) (last_block_of b.all)
              s.written.low s.written.ring;
          fine = s.written.fine;
          fits = s.written.fits;
          low = omega arith;
          high = omega arith;
        };
        on = λ z. all_on inside one;
        idle = λ z. (refl, refl);
        front = λ z. (refl, ([], sym (append-nil b.all)));
        flush = λ z. absurd (z refl);
      }))

  -- another one is
  one_stored_lem : (inside : place < blocks_of h.card) → (b.left ≡ 1 → ⊥)
      → Sound (held_of (stored_of h.recorder) h.room (put_block h.card place (store_of h).block)) (one_stored b)
  unfolding one_stored
  one_stored_lem inside n =
      let r = h.recorder in
      let same = stored_one h.recorder (λ z. some (sym s.left ∙ z)) (λ z. n (sym s.left ∙ z)) in
      let old-one = not-fresh n in
      rw (ne_eqb b.left 1 n)
      (subst (λ (x : Recorder). Sound (held_of x h.room (put_block h.card place (store_of h).block))
      (record {
        begun = b.begun;
        fresh = b.fresh;
        survey = b.survey;
        kept = b.kept;
        end = b.end;
        all = b.all;
        next = b.next;
        left = b.left - 1;
      })) same
      (record {
        whole = omega (arith, u-long inside (store_of h).block block_long, s.whole);
        small = omega (arith, u-long inside (store_of h).block block_long, s.small);
        left = ap (λ (x : ℕ). x - 1) s.left;
        survey = s.survey;
        from = s.from;
        written = s.written;
        on = still-on inside (store_of h).block block_long n;
        idle = λ z. absurd (n (omega (arith, positive)));
        front = s.front;
        flush = λ z. record {
          few = omega (arith, flushing.few);
          short = flushing.short;
          fine = flushing.fine;
          ready = flushing.ready;
          stored = λ k x y. elim (ℕ_discrete place k) [
            | yes e ↦ subst (λ (i : ℕ). block_at (put_block h.card place (store_of h).block) i ≡ stream_block i) e
                (u_same inside (store_of h).block block_long ∙ asked)
            | no e ↦ u-other inside (store_of h).block block_long k e (omega (arith, far k x y e))
                ∙ flushing.stored k (above k x e) y
          ];
          inside = λ x. omega (arith, u-long inside (store_of h).block block_long, to_end x);
          later = flushing.later;
          once = λ x. absurd (false≢true (sym old-one ∙ x));
        };
      }))
    where
      above : (k : ℕ) → first_left b + (b.left - 1) ≤ k → (place ≡ k → ⊥) → first_left b + b.left ≤ k
      above k x e = elim (dec_lt k (first_left b + b.left)) [
        | yes z ↦ absurd (e (omega (arith, at_place, positive)))
        | no z ↦ omega arith
      ]

      to_end : b.left - 1 ≤ last_block_of b.all - first_left b → last_block_of b.all < blocks_of h.card
      to_end x = elim (dec_lt (last_block_of b.all - first_left b) b.left) [
        | yes z ↦ omega (arith, at_place, positive, flushing.few, s.written.low)
        | no z ↦ flushing.inside (omega arith)
      ]

      far : (k : ℕ) → first_left b + (b.left - 1) ≤ k → k ≤ last_block_of b.all → (place ≡ k → ⊥)
          → k < blocks_of h.card
      far k x y e = omega (arith, flushing.inside (omega (arith, above k x e, s.written.low)))

store-none : (h : Held) → h.recorder.left ≡ 0 → h ≡ stepped store h
unfolding stepped
store-none h z = rw (eq-eqb h.recorder.left 0 z)
    (ap (λ (r : Recorder). held_of r h.room h.card) (stored-none h.recorder z))

store-past : (h : Held) → (h.recorder.left ≡ 0 → ⊥) → ltb (store_of h).place (blocks_of h.card) ≡ false
    → h ≡ stepped store h
unfolding stepped
store-past h n l = rw (ne_eqb h.recorder.left 0 n, l)

store-made : (h : Held) → (h.recorder.left ≡ 0 → ⊥) → ltb (store_of h).place (blocks_of h.card) ≡ true
    → held_of (stored_of h.recorder) h.room (put_block h.card (store_of h).place (store_of h).block)
    ≡ stepped store h
unfolding stepped
store-made h n l = rw (ne_eqb h.recorder.left 0 n, l)

pub store-sound : (h : Held) (b : Book) → Sound h b → Sound (stepped store h) (noted (blocks_of h.card) store b)
unfolding noted
store-sound h b s = elim (ℕ_discrete b.left 0) [
  | yes z ↦ rw (eq-eqb b.left 0 z) (subst (λ (x : Held). Sound x b) (store-none h (s.left ∙ z)) s)
  | no z ↦ rw (ne_eqb b.left 0 z) (by z (ltb (store_of h).place (blocks_of h.card)) refl)
]
  where
    by : (b.left ≡ 0 → ⊥) → (t : Bool) → ltb (store_of h).place (blocks_of h.card) ≡ t
        → Sound (stepped store h) (cond (ltb (first_left b + b.left - 1) (blocks_of h.card)) (one_stored b) b)
    by z true e =
        let n : h.recorder.left ≡ 0 → ⊥ = λ y. z (sym s.left ∙ y) in
        let inside : (store_of h).place < blocks_of h.card = ltb-true (store_of h).place (blocks_of h.card) e in
        let is : ltb (first_left b + b.left - 1) (blocks_of h.card) ≡ true =
        ap (λ (x : ℕ). ltb x (blocks_of h.card)) (sym (place-as h b s z)) ∙ e in
        rw is (subst (λ (x : Held). Sound x (one_stored b)) (store-made h n e) (elim (ℕ_discrete b.left 1) [
          | yes one ↦ last_stored h b s z inside one
          | no others ↦ one_stored_lem h b s z inside others
        ]))
    by z false e =
        let is : ltb (first_left b + b.left - 1) (blocks_of h.card) ≡ false =
        ap (λ (x : ℕ). ltb x (blocks_of h.card)) (sym (place-as h b s z)) ∙ e in
        rw is (subst (λ (x : Held). Sound x b) (store-past h (λ y. z (sym s.left ∙ y)) e) s)
