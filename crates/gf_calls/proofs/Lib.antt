mod TableAnswers
