mod Single
