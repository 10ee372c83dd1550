-- If the digits before the first mark are not a number, no number precedes the mark.
use Rattle.yuv_words.proofs.Cuts.{no_cut, no_number}
use Rattle.yuv_words.proofs.values.number_before.Goals as goal

pub returns-in-None-number : goal.returns-in-None-number
returns-in-None-number c = no_number c.args.mark c.requires.apart c.args.text.now c.in-Some.digits c.in-Some.rest
    c.requires.ascii c.in-Some.ensures.cases c.in-None-number.ensures

pub returns-in-None : goal.returns-in-None
returns-in-None c = no_cut c.args.mark c.requires.apart c.args.text.now c.requires.ascii c.in-None.ensures.cases
