use mathlib.Core.Path.{subst}
use Rattle.isochronous.specs.declared.open_close.Packet.{Packet}
use Rattle.isochronous.specs.Packets as packets
use borrow.Author.Rules.{rules}
use Rattle.calls.proofs.in_place.told.Goals as goal

pub enum_told-1 : goal.enum_told-1
enum_told-1 c = search rules

pub returns-in-Refused : goal.returns-in-Refused
returns-in-Refused c =
    record {
      by_index = λ b x. simp c.in-Refused.is;
      shown_at = λ d e h. tt;
    }

pub returns-in-Shown : goal.returns-in-Shown
returns-in-Shown c =
    record {
      by_index = λ b x. simp c.in-Shown.is;
      shown_at = λ d e h. subst (λ (x : Packet). packets.ShownAt x d e) c.in-Shown.is h;
    }

pub returns-in-Ok : goal.returns-in-Ok
returns-in-Ok c =
    record {
      by_index = λ b x. simp c.in-Ok.is;
      shown_at = λ d e h. tt;
    }
