-- What each instant answers and leaves follows from the one before it.
use Rattle.std.proofs.Common.{refl, [], ◌∷◌}
use Rattle.esterel.specs.Instant.{zeros}
use Rattle.sequencer.proofs.Sequence.{at_pauses, start_left, resume-left, suspended, again, caught, marks-at, closed-is}
use Rattle.sequencer.proofs.main.Goals as goal

pub expect-requires : goal.expect-requires
expect-requires c =
    let first = start_left _ _ refl refl c.start-first.ensures in
    rw (c.eq.ensures, closed-is first.answer, c.closed.ensures)

pub expect_left-requires : goal.expect_left-requires
expect_left-requires c =
    let first = start_left _ _ refl refl c.start-first.ensures in
    let at = marks-at first in
    (first.state_is, at.0, at.1, at.2)

pub expect-requires-2 : goal.expect-requires-2
expect-requires-2 c =
    let first = start_left _ _ refl refl c.start-first.ensures in
    let second = resume-left (1 ∷ []) 1 1 9 at_pauses (9 ∷ []) first refl suspended c.resume-second.ensures in
    rw (c.eq-2.ensures, closed-is second.answer, c.closed-2.ensures)

pub expect_left-requires-2 : goal.expect_left-requires-2
expect_left-requires-2 c =
    let first = start_left _ _ refl refl c.start-first.ensures in
    let second = resume-left (1 ∷ []) 1 1 9 at_pauses (9 ∷ []) first refl suspended c.resume-second.ensures in
    let at = marks-at second in
    (second.state_is, at.0, at.1, at.2)

pub expect-requires-3 : goal.expect-requires-3
expect-requires-3 c =
    let first = start_left _ _ refl refl c.start-first.ensures in
    let second = resume-left (1 ∷ []) 1 1 9 at_pauses (9 ∷ []) first refl suspended c.resume-second.ensures in
    let third = resume-left (0 ∷ 0 ∷ []) 1 2 19 at_pauses (7 ∷ 9 ∷ []) second refl again c.resume-third.ensures in
    rw (c.eq-3.ensures, closed-is third.answer, c.closed-3.ensures)

pub expect_left-requires-3 : goal.expect_left-requires-3
expect_left-requires-3 c =
    let first = start_left _ _ refl refl c.start-first.ensures in
    let second = resume-left (1 ∷ []) 1 1 9 at_pauses (9 ∷ []) first refl suspended c.resume-second.ensures in
    let third = resume-left (0 ∷ 0 ∷ []) 1 2 19 at_pauses (7 ∷ 9 ∷ []) second refl again c.resume-third.ensures in
    let at = marks-at third in
    (third.state_is, at.0, at.1, at.2)

pub expect-requires-4 : goal.expect-requires-4
expect-requires-4 c =
    let first = start_left _ _ refl refl c.start-first.ensures in
    let second = resume-left (1 ∷ []) 1 1 9 at_pauses (9 ∷ []) first refl suspended c.resume-second.ensures in
    let third = resume-left (0 ∷ 0 ∷ []) 1 2 19 at_pauses (7 ∷ 9 ∷ []) second refl again c.resume-third.ensures in
    let fourth = resume-left (0 ∷ 1 ∷ []) 0 2 16 (zeros 128) (7 ∷ 9 ∷ []) third refl caught c.resume-fourth.ensures in
    rw (c.eq-4.ensures, closed-is fourth.answer, c.closed-4.ensures)

pub expect_left-requires-4 : goal.expect_left-requires-4
expect_left-requires-4 c =
    let first = start_left _ _ refl refl c.start-first.ensures in
    let second = resume-left (1 ∷ []) 1 1 9 at_pauses (9 ∷ []) first refl suspended c.resume-second.ensures in
    let third = resume-left (0 ∷ 0 ∷ []) 1 2 19 at_pauses (7 ∷ 9 ∷ []) second refl again c.resume-third.ensures in
    let fourth = resume-left (0 ∷ 1 ∷ []) 0 2 16 (zeros 128) (7 ∷ 9 ∷ []) third refl caught c.resume-fourth.ensures in
    let at = marks-at fourth in
    (fourth.state_is, at.0, at.1, at.2)
