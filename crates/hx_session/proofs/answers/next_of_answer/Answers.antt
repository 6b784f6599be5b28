use Rattle.hx_session.proofs.answers.next_of_answer.Goals as goal

pub next_of_body-requires-clause-good : goal.next_of_body-requires-clause-good
next_of_body-requires-clause-good g c = λ bad. c.requires.good (c.in-Body.body, c.in-Body.is, bad)
