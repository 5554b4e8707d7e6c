use Rattle.st_observer.proofs.kept.put_given.Goals as goal

pub returns : goal.returns
returns c = rw (c.into_vec.ensures, c.in_ok-given.ensures.value) at c.in_ok-index.ensures
