-- What the loop over packets keeps.
use Rattle.std.proofs.Common.{◌≡◌, ℕ, suc, ◌+◌, ◌-◌, ◌/◌, ◌<◌, ◌≤◌, Bool, List, [], ◌++◌, length, take, drop, sym, refl, ap, ◌∙◌, append-nil, add-zero, zero-add, arith, length-append, length-drop, length-take-le, w64, Fits, Some}
use native.Mathlib.Decide.{dec_lt}
use lib.Seq.{paste}
use borrow.Rule.Slice.PartMut.{put_mid}
use Rattle.card.specs.PasteLaws.{part-front}
use Rattle.card.specs.declared.stream.Found.{Found}
use Rattle.card.specs.Reading.{View, total, bytes_from, find}
use Rattle.card.proofs.Progress.{find-fits}
use Rattle.card.specs.Rooms.{length-bytes}
use Rattle.card.specs.Seen.{Seen}
use Rattle.card.proofs.SeenLaws.{seen_none}
use Rattle.card.specs.Batches.{Several, none, some_from, front, Takes}
use Rattle.card.proofs.BatchLaws.{behind, some_more, some-standing, front-more, found-seen}
use Rattle.card.specs.Inside.{Near}
use Rattle.card.proofs.InsideLaws.{standing-count, standing-lies}

-- so many packets are in the room, and what is left to be taken joins them to all
pub record Taking (v : View) (all : Several) (lent room : List ℕ) (count used d first : ℕ) : Type 0 where
  pub fuel : ℕ
  pub bytes : List ℕ
  pub enough : length lent - used < fuel
  pub inside : used ≤ length lent
  pub counted : count ≤ used
  pub same : length room ≡ length lent
  pub long : used ≡ length bytes
  pub holds : room ≡ front bytes lent
  pub rest : behind count bytes (some_from v fuel d (length lent - used)) ≡ all
  pub seen : Seen v d first
  pub held : Fits w64 d

pub begins : (v : View) (lent : List ℕ) (d : ℕ) → Fits w64 d
    → Taking v (some_from v (suc (length lent)) d (length lent)) lent lent 0 0 d (d / 504)
begins v lent d held = record {
  fuel = suc (length lent);
  bytes = [];
  enough = omega arith;
  inside = omega arith;
  counted = omega arith;
  same = refl;
  long = refl;
  holds = refl;
  rest = rw (whole, zero-add (some_from v (suc (length lent)) d (length lent)).count);
  seen = seen_none v d;
  held = held;
}
  where
    whole : length lent - 0 ≡ length lent
    whole = omega arith

-- lengths of what is in the room
lengths : (bytes lent : List ℕ) → length bytes ≤ length lent → length (front bytes lent) ≡ length lent
lengths bytes lent h = omega (arith, length-append bytes (drop (length bytes) lent), length-drop (length bytes) lent)

pub goes_near : (v : View) (all : Several) (lent room now : List ℕ) (count used d first c n : ℕ) → Fits w64 (total v)
    → Taking v all lent room count used d first → Near v d first (length room - used) c n
    → now ≡ paste room used (bytes_from v d n) n
    → Taking v all lent now (count + c) (used + n) (d + n) first
goes_near v all lent room now count used d first c n far t w e =
    let more = bytes_from v d n in
    let long-more : length more ≡ n = length-bytes v n d in
    let fits : n ≤ length lent - used = omega (arith, w.fits, t.same) in
    let next = some-standing v c t.fuel d n (length lent - used) count t.bytes all t.enough w.standing fits
    t.rest in
    let left : length lent - used - n ≡ length lent - (used + n) = omega arith in
    let holds : now ≡ front (t.bytes ++ more) lent =
    e ∙ front-more t.bytes more lent room used n t.long (sym long-more) t.holds in
    let joined : used + n ≡ length (t.bytes ++ more) = omega (arith, length-append t.bytes more, t.long) in
    record {
      fuel = next.0;
      bytes = t.bytes ++ more;
      enough = omega (arith, next.1);
      inside = omega (arith, t.inside);
      counted = omega (arith, t.counted, standing-count v d c n w.standing);
      same = ap length holds ∙ lengths (t.bytes ++ more) lent (omega (arith, joined, t.inside));
      long = joined;
      holds = holds;
      rest = rw left at next.2;
      seen = w.seen;
      held = elim (dec_lt 0 n) [
        | yes l ↦ omega (arith, standing-lies v d c n w.standing l)
        | no l ↦ omega (arith, t.held)
      ];
    }

-- the same, by what take_near leaves in the room's part from `used` on
pub goes_part : {v : View} {all : Several} {lent room part : List ℕ} {count used d first c n : ℕ} → Fits w64 (total v)
    → Taking v all lent room count used d first
    → Near v d first (length (take (length room - used) (drop used room))) c n
    → part ≡ paste (take (length room - used) (drop used room)) 0 (bytes_from v d n) n
    → Taking v all lent (put_mid used (length room - used) room part) (count + c) (used + n) (d + n) first
goes_part {v} {all} {lent} {room} {part} {count} {used} {d} {first} {c} {n} far t w e =
    let inside : used ≤ length room = omega (arith, t.same, t.inside) in
    let left : length (take (length room - used) (drop used room)) ≡ length room - used =
    length-take-le (length room - used) (drop used room) (omega (arith, length-drop used room)) in
    goes_near v all lent room _ count used d first c n far t (rw left at w)
    (ap (λ (l : List ℕ). put_mid used (length room - used) room l) e ∙ part-front room (bytes_from v d n) used n inside)

pub goes_on_lem : (v : View) (all : Several) (lent room now : List ℕ) (count used d first : ℕ) (p : Found)
    → Fits w64 (total v)
    → Taking v all lent room count used d first → find v (total v) d ≡ Some p → 3 + p.len ≤ length lent - used
    → now ≡ paste room used (bytes_from v p.at (3 + p.len)) (3 + p.len)
    → Taking v all lent now (count + 1) (used + (3 + p.len)) (p.at + (3 + p.len))
    ((p.at + (3 + p.len) + 503) / 504)
goes_on_lem v all lent room now count used d first p far t h l e =
    let at = p.at in
    let n = p.len in
    let more = bytes_from v at (3 + n) in
    let long-more : length more ≡ 3 + n = length-bytes v (3 + n) at in
    let next = some_more v t.fuel d (length lent - used) p count t.bytes all t.enough h l t.rest in
    let left : length lent - used - (3 + n) ≡ length lent - (used + (3 + n)) = omega arith in
    let holds : now ≡ front (t.bytes ++ more) lent =
    e ∙ front-more t.bytes more lent room used (3 + n) t.long (sym long-more) t.holds in
    let joined : used + (3 + n) ≡ length (t.bytes ++ more) = omega (arith, length-append t.bytes more, t.long) in
    record {
      fuel = next.0;
      bytes = t.bytes ++ more;
      enough = omega (arith, next.1);
      inside = omega (arith, t.inside);
      counted = omega (arith, t.counted);
      same = ap length holds ∙ lengths (t.bytes ++ more) lent (omega (arith, joined, t.inside));
      long = joined;
      holds = holds;
      rest = rw left at next.2;
      seen = found-seen v (total v) d p h;
      held = omega (arith, find-fits v (total v) d p h);
    }

-- what the loop answers where no more is taken
pub ends : (v : View) (all : Several) (lent room : List ℕ) (count used d first : ℕ) (b : Bool)
    → (t : Taking v all lent room count used d first)
    → some_from v t.fuel d (length lent - used) ≡ none d b
    → Takes (record { count = count; used = used; at = d; short = b }) all × (room ≡ front all.bytes lent)
ends v all lent room count used d first b t e =
    let is : behind count t.bytes (none d b) ≡ all = rw e at t.rest in
    let told : t.bytes ≡ all.bytes = sym (append-nil t.bytes) ∙ ap (λ (s : Several). s.bytes) is in (
      record {
        count = sym (add-zero count) ∙ ap (λ (s : Several). s.count) is;
        used = t.long ∙ ap length told;
        at = ap (λ (s : Several). s.at) is;
        short = ap (λ (s : Several). s.short) is;
      },
      t.holds ∙ ap (λ (l : List ℕ). front l lent) told,
    )
