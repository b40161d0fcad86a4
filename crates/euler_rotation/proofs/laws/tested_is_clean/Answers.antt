use Rattle.euler_rotation.proofs.TourTurns.{clean_from, clean_to}
use Rattle.euler_rotation.proofs.laws.tested_is_clean.Goals as goal

pub returns : goal.returns
returns c t a f turn = (clean_to t a f turn, clean_from t a f turn)
