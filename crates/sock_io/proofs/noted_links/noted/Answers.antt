use base.Meet.{within_both}
use mathlib.Core.List.{[], not-mem-nil}
use Rattle.sock_io.proofs.noted_links.noted.Goals as goal

-- what is shown is the list and the value, which live as long as their type
pub of-requires : goal.of-requires
of-requires g c κs within =
    let lives = g.row.V.lives in
    let value = within_both κs.1.1.0 lives [] within.1 (λ a m. absurd (not-mem-nil m)) in
    let marker = within_both κs.1.1.0 _ [] (within_both κs.1.1.0 _ [] value (λ a m. absurd (not-mem-nil m))) (λ a m. absurd (not-mem-nil m)) in
    let both = within_both κs.1.1.0 _ _ (within_both κs.1.1.0 _ _ value marker) value in
    (within.0, within_both κs.1.1.0 _ _ both both)
