-- Behind bytes that came in, what goes out of an other end is still what the link in memory behind it gives, and what came in is what that takes.
use Rattle.std.proofs.Common.{◌≡◌, ◌≢◌, ℕ, Bool, true, false, List, [], ◌++◌, refl, ap, sym, ◌∙◌, append_assoc, append-nil}
use Rattle.sock_io.specs.declared.ending.Ending.{Ending}
use Rattle.sock_io.specs.declared.ending.Ending.TheVariants as ending
use Rattle.sock_io.specs.Peer.{has_ended}
use Rattle.ring_link.specs.InsideRingLink.{InnerState, IsServing, inner_gave}
use Rattle.ring_link.specs.RingHalves.{ReaderState, WriterState, Repeats}

open_ended : (e : Ending) → e ≡ ending.Open → e ≡ ending.Ended → ⊥
open_ended e o n = cc

pub open_closed : (e : Ending) → e ≡ ending.Open → e ≡ ending.Closed → ⊥
open_closed e o n = cc

pub ended_open : (e : Ending) → has_ended e ≡ true → e ≢ ending.Open
ended_open e t o = cc (ap has_ended (sym o) ∙ t)

pub both : (b : Bool) → b ≡ true → b ≡ false → ⊥
both b t f = cc

-- it is handed on
pub repeats_fed : (l l' : InnerState) (r r' : ReaderState) (w w' : WriterState) (got : List ℕ) → Repeats l r w → w.ending ≡ ending.Open → l'.took ≡ l.took ++ got → inner_gave l' ≡ inner_gave l → IsServing l' → r'.bytes ≡ r.bytes ++ got
    → w'.bytes ≡ w.bytes → w'.ending ≡ w.ending → Repeats l' r' w'
repeats_fed l l' r r' w w' got x o took gave s bytes same mark = record {
  served = s;
  gave = same ∙ x.gave ∙ sym gave;
  rest = [];
  took = bytes ∙ ap (λ (b : List ℕ). b ++ got) (x.took ∙ ap (λ (b : List ℕ). l.took ++ b) (x.goes_on o) ∙ append-nil l.took) ∙ sym took ∙ sym (append-nil l'.took);
  goes_on = λ _. refl;
  ended = λ e. absurd (open_ended w.ending o (sym mark ∙ e));
  closed = λ e. absurd (open_closed w.ending o (sym mark ∙ e));
}

-- behind the end it is thrown away
pub repeats_thrown : (l : InnerState) (r r' : ReaderState) (w : WriterState) (got : List ℕ) → Repeats l r w → has_ended w.ending ≡ true → has_ended r.ending ≡ false → r'.bytes ≡ r.bytes ++ got → Repeats l r' w
repeats_thrown l r r' w got x ended live bytes = record {
  served = x.served;
  gave = x.gave;
  rest = x.rest ++ got;
  took = bytes ∙ ap (λ (b : List ℕ). b ++ got) x.took ∙ append_assoc l.took x.rest got;
  goes_on = λ e. absurd (ended_open w.ending ended e);
  ended = x.ended;
  closed = λ e. absurd (both (has_ended r.ending) (x.closed e).3 live);
}
