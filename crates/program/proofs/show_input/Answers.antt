-- What is read lies within the buffer, and its text is that of the whole input.
use Rattle.std.proofs.Common.{◌*◌, sym}
use lib.Seq.{length-take-le}
use Rattle.esterel.specs.Limits.{max_nodes}
use Rattle.input.proofs.Reading.{within, of-front}
use Rattle.program.proofs.show_input.Goals as goal

pub slice_bounds-render-end : goal.slice_bounds-render-end
slice_bounds-render-end g c = within c.in_ok-read.ensures

pub slice_bounds-render-end-2 : goal.slice_bounds-render-end-2
slice_bounds-render-end-2 g c = sym (length-take-le _ _ (within c.in_ok-read.ensures))

pub returns-clause-shows : goal.returns-clause-shows
returns-clause-shows g c = of-front (2 * max_nodes) c.requires c.in_ok-read.ensures (λ n input h o. g.met.T.Text.of_front n input _ _ _ h o) c.render.ensures.said
